use Rattle.std.proofs.Common.{◌≡◌, drop, map}
use Rattle.check_groups.specs.Capped as capped
use Rattle.plan_verdict.specs.Rels.{over}
use Rattle.plan_verdict.specs.Verdict.{checked_expr}
use Rattle.check_groups.proofs.GroupLaws.{followed}
use Rattle.check_groups.proofs.groups.set_in.Given as goal

-- the places so far, and those of what is left
abbrev pub invariant-loop-written : goal.invariant-loop-written
invariant-loop-written g l =
    followed l.places (capped.capped_set_in (over l.number l.columns) l.groups (map (checked_expr l.terms) (drop l.written-index l.expressions)) l.progress)
    ≡ capped.capped_set_in (over l.number l.columns) l.fn.groups (map (checked_expr l.terms) l.expressions) l.fn.progress
