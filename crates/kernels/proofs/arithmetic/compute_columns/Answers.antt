use Rattle.std.proofs.Common.{◌∙◌, List, Bool, length, map, option_map, sym, ap, subst, arith}
use Rattle.sub_types.specs.Optional.{optional}
use Rattle.sub_types.specs.Slots.{slots, length-slots}
use Rattle.kernels.specs.Arith.{AreValid}
use Rattle.kernels.specs.declared.selection.Stop.TheVariants.{Never}
use Rattle.kernels.proofs.AllLaws.{rows-all}
use Rattle.kernels.proofs.CompareLaws.{length-both_valid}
use Rattle.kernels.proofs.arithmetic.compute_columns.Goals as goal

pub from_parts-requires : goal.from_parts-requires
from_parts-requires g c =
    let are = rw c.in-Some.is at c.in_ok-values.ensures in
    let slots = ap length c.values.ensures ∙ length-slots g.T.Native.zero c.args.a.now in
    let valid = ap length c.in_ok-valid.ensures ∙ length-both_valid c.args.a.now c.args.b.now c.requires in
    omega (arith, c.in-Some.values.ok.0, are.long, slots, valid)

pub computed-requires : goal.computed-requires
computed-requires g c =
    let a = ap length c.values.ensures ∙ length-slots g.T.Native.zero c.args.a.now in
    let b = ap length c.values-2.ensures ∙ length-slots g.T.Native.zero c.args.b.now in
    let valid = ap length c.in_ok-valid.ensures ∙ length-both_valid c.args.a.now c.args.b.now c.requires in
    record { same = omega (arith, a, b, c.requires); valid = omega (arith, a, valid) }

pub returns : goal.returns
returns g c =
    let number = g.T.Native.number in
    let zero = g.T.Native.zero in
    let a = c.args.a.now in
    let b = c.args.b.now in
    let items = c.in-Some.values.items in
    let P = λ (xs ys : List g.row.T.Denot) (valid : List Bool). AreValid c.args.op number zero c.args.range.0 c.args.range.1 xs ys valid items in
    let are = rw c.in-Some.is at c.in_ok-values.ensures in
    let held = subst (P (slots zero a) (slots zero b)) c.in_ok-valid.ensures (subst (λ ys. P (slots zero a) ys c.in_ok-valid.valid) c.values-2.ensures (subst (λ xs. P xs c.values-2.result.now c.in_ok-valid.valid) c.values.ensures are)) in
    rows-all c.args.op c.args.mode g.T.Native.width number zero c.args.range.0 c.args.range.1 a b items c.requires held
    ∙ ap (λ column. record { values = map (option_map number) column; stop = Never }) (sym (c.from_parts.ensures ∙ ap (optional items) c.in_ok-valid.ensures))
