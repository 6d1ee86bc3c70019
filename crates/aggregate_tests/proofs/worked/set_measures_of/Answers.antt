use Rattle.std.proofs.Common.{All, sym, subst}
use Rattle.std.proofs.lemmas.List.Elements.{All-push}
use Rattle.well_typed.specs.WellTyped.{IsSetMeasureOver}
use Rattle.aggregate_tests.specs.Typed.{numbers}
use Rattle.aggregate_tests.proofs.worked.set_measures_of.Goals as goal

pub loop-asked-preserved : goal.loop-asked-preserved
loop-asked-preserved c =
    let is : IsSetMeasureOver numbers c.over.result = record { measure = c.over.ensures.measure; distinct = c.over.ensures.distinct } in
    subst (All (IsSetMeasureOver numbers)) (sym c.in_ok-push.ensures.items) (All-push (IsSetMeasureOver numbers) c.loop-asked.measures.items c.over.result c.loop-asked.invariant is)
