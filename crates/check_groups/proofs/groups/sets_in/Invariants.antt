use Rattle.std.proofs.Common.{◌≡◌, drop, map}
use Rattle.check_groups.specs.Capped as capped
use Rattle.plan_verdict.specs.Rels.{over}
use Rattle.plan_verdict.specs.Verdict.{checked_grouping}
use Rattle.check_groups.proofs.GroupLaws.{followed}
use Rattle.check_groups.proofs.groups.sets_in.Given as goal

-- the sets so far, and those of what is left
abbrev pub invariant-loop-grouping : goal.invariant-loop-grouping
invariant-loop-grouping g l =
    followed l.sets (capped.capped_sets_in (over l.number l.columns) l.groups (map (checked_grouping l.terms) (drop l.grouping-index l.groupings)) l.progress)
    ≡ capped.capped_sets_in (over l.number l.columns) l.fn.groups (map (checked_grouping l.terms) l.groupings) l.fn.progress
