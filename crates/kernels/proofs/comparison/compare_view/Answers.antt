use Rattle.std.proofs.Common.{◌∙◌, length, map, is_some, sym, ap, ap₂}
use Rattle.std.proofs.lemmas.List.{length-map}
use Rattle.sub_types.specs.Optional.{optional}
use Rattle.sub_types.specs.Slots.{length-slots}
use Rattle.kernels.specs.Numbers.{holds}
use Rattle.kernels.proofs.CompareLaws.{optional-compared_constant}
use Rattle.kernels.proofs.comparison.compare_view.Goals as goal

pub from_parts-requires : goal.from_parts-requires
from_parts-requires g c =
    let test = λ (x : g.row.T.Denot). holds g.T.Native.number c.args.op x c.args.constant in
    ap length c.in_ok-tests.ensures ∙ length-map c.values.result.now test ∙ ap length c.values.ensures ∙ length-slots g.T.Native.zero c.args.a.now ∙ sym (ap length c.in_ok-validity.ensures ∙ length-map c.args.a.now is_some)

pub returns : goal.returns
returns g c =
    let test = λ (x : g.row.T.Denot). holds g.T.Native.number c.args.op x c.args.constant in
    c.from_parts.ensures ∙ ap₂ optional (c.in_ok-tests.ensures ∙ ap (map test) c.values.ensures) c.in_ok-validity.ensures ∙ optional-compared_constant g.T.Native.number c.args.op g.T.Native.zero c.args.constant c.args.a.now
