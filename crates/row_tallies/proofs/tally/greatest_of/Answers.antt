use Rattle.std.specs.Ordering.{is_gt}
use Rattle.row_tallies.proofs.TallyLaws.{best_before_null, last_is_better}
use Rattle.row_tallies.proofs.tally.greatest_of.Goals as goal

pub loop-value-init : goal.loop-value-init
loop-value-init c = best_before_null is_gt c.args.members

pub loop-value-preserved : goal.loop-value-preserved
loop-value-preserved c = last_is_better is_gt c.loop-value.members c.pop.new.self c.in-Some.value c.loop-value.greatest c.greater-greatest.result _ c.in-Some.ensures c.greater-greatest.ensures c.loop-value.invariant
