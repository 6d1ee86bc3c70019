use Rattle.std.proofs.Common.{◌∙◌, length, sym, ap, ap₂}
use lib.Lanes.{zip2}
use Rattle.sub_types.specs.Optional.{optional}
use Rattle.sub_types.specs.Slots.{length-slots}
use Rattle.kernels.specs.Numbers.{holds}
use Rattle.kernels.proofs.CompareLaws.{optional-compared, length-both_valid, length-tests}
use Rattle.kernels.proofs.comparison.compare_views.Goals as goal

pub compare_values-requires : goal.compare_values-requires
compare_values-requires g c = ap length c.values.ensures ∙ length-slots g.T.Native.zero c.args.a.now ∙ c.requires ∙ sym (ap length c.values-2.ensures ∙ length-slots g.T.Native.zero c.args.b.now)

pub from_parts-requires : goal.from_parts-requires
from_parts-requires g c =
    let tests = c.in_ok-tests.ensures ∙ ap₂ (zip2 (holds g.T.Native.number c.args.op)) c.values.ensures c.values-2.ensures in
    let valid = c.in_ok-valid.ensures in
    ap length tests ∙ length-tests g.T.Native.number c.args.op g.T.Native.zero c.args.a.now c.args.b.now c.requires ∙ sym (ap length valid ∙ length-both_valid c.args.a.now c.args.b.now c.requires)

pub returns : goal.returns
returns g c =
    let tests = c.in_ok-tests.ensures ∙ ap₂ (zip2 (holds g.T.Native.number c.args.op)) c.values.ensures c.values-2.ensures in
    let valid = c.in_ok-valid.ensures in
    c.from_parts.ensures ∙ ap₂ optional tests valid ∙ optional-compared g.T.Native.number c.args.op g.T.Native.zero c.args.a.now c.args.b.now
