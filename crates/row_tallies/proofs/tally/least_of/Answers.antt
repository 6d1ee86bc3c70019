use Rattle.std.specs.Ordering.{is_lt}
use Rattle.row_tallies.proofs.TallyLaws.{best_before_null, last_is_better}
use Rattle.row_tallies.proofs.tally.least_of.Goals as goal

pub loop-value-init : goal.loop-value-init
loop-value-init c = best_before_null is_lt c.args.members

pub loop-value-preserved : goal.loop-value-preserved
loop-value-preserved c = last_is_better is_lt c.loop-value.members c.pop.new.self c.in-Some.value c.loop-value.least c.lesser-least.result _ c.in-Some.ensures c.lesser-least.ensures c.loop-value.invariant
