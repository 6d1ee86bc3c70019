use Rattle.std.proofs.Common.{◌∙◌, List, Bool, length, map, is_some, option_map, replicate, sym, ap, subst, arith}
use Rattle.std.proofs.lemmas.List.{length-map}
use Rattle.sub_types.specs.Optional.{optional}
use Rattle.sub_types.specs.Slots.{slots, length-slots}
use Rattle.kernels.specs.Arith.{AreValid}
use Rattle.kernels.specs.declared.selection.Stop.TheVariants.{Never}
use Rattle.kernels.proofs.AllLaws.{rows-all_constant}
use Rattle.kernels.proofs.arithmetic.compute_column.Goals as goal

pub from_parts-requires : goal.from_parts-requires
from_parts-requires g c =
    let are = rw c.in-Some.is at c.in_ok-values.ensures in
    let slots = ap length c.values.ensures ∙ length-slots g.T.Native.zero c.args.a.now in
    let valid = ap length c.in_ok-valid.ensures ∙ length-map c.args.a.now is_some in
    omega (arith, c.in-Some.values.ok.0, are.long, slots, valid)

pub computed_constant-requires : goal.computed_constant-requires
computed_constant-requires g c =
    let a = ap length c.values.ensures ∙ length-slots g.T.Native.zero c.args.a.now in
    let valid = ap length c.in_ok-valid.ensures ∙ length-map c.args.a.now is_some in
    omega (arith, a, valid)

pub returns : goal.returns
returns g c =
    let number = g.T.Native.number in
    let zero = g.T.Native.zero in
    let a = c.args.a.now in
    let items = c.in-Some.values.items in
    let P = λ (xs : List g.row.T.Denot) (valid : List Bool). AreValid c.args.op number zero c.args.range.0 c.args.range.1 xs (replicate (length xs) c.args.constant) valid items in
    let are = rw c.in-Some.is at c.in_ok-values.ensures in
    let held = subst (P (slots zero a)) c.in_ok-valid.ensures (subst (λ xs. P xs c.in_ok-valid.valid) c.values.ensures are) in
    rows-all_constant c.args.op c.args.mode g.T.Native.width number zero c.args.range.0 c.args.range.1 a c.args.constant items held
    ∙ ap (λ column. record { values = map (option_map number) column; stop = Never }) (sym (c.from_parts.ensures ∙ ap (optional items) c.in_ok-valid.ensures))
