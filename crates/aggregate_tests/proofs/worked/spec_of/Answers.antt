use Rattle.std.proofs.lemmas.List.Elements.{recursion_from_All}
use Rattle.well_typed.specs.ExprTyped.{IsTypedOver}
use Rattle.well_typed.specs.WellTyped.{IsMeasureOver}
use Rattle.aggregate_tests.specs.Typed.{numbers}
use Rattle.aggregate_tests.proofs.worked.spec_of.Goals as goal

pub returns : goal.returns
returns c = record {
  kinds = (tt, (tt, tt));
  groups = recursion_from_All (IsTypedOver numbers) c.in_ok-groups.groups.items c.in_ok-groups.ensures;
  measures = recursion_from_All (IsMeasureOver numbers) c.in_ok-measures.measures.items c.in_ok-measures.ensures;
}
