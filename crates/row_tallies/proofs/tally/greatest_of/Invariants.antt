use Rattle.std.proofs.Common.{◌≡◌, length}
use Rattle.std.specs.Ordering.{is_gt}
use Rattle.plan_denote.specs.Tally.{best_of}
use Rattle.row_tallies.proofs.TallyLaws.{best_before}
use Rattle.row_tallies.proofs.tally.greatest_of.Given as goal

-- the best of what is left and of what is behind it is the best of all
abbrev pub invariant-loop-value : goal.invariant-loop-value
invariant-loop-value l = best_before is_gt l.members l.greatest ≡ best_of is_gt l.fn.members

abbrev pub decreases-loop-value : goal.decreases-loop-value
decreases-loop-value l = length l.members
