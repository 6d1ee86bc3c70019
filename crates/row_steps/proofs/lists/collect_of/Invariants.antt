use Rattle.std.proofs.Common.{◌≡◌, Result, drop, map}
use Rattle.plan_denote.specs.Rows.{collect}
use Rattle.sub_types.specs.declared.fault.FaultKind.{FaultKind}
use Rattle.row_steps.specs.Seen.{Comes}
use Rattle.row_steps.proofs.ListLaws.{behind}
use Rattle.row_steps.proofs.lists.collect_of.Given as goal

-- the values so far, and what comes of what is left
abbrev pub invariant-loop-one : goal.invariant-loop-one
invariant-loop-one g l =
    (f : g.row.A.Denot → Result g.row.B.Denot FaultKind) → ((one : _) (result : _) → goal.F-post g l.fn.worth one result → Comes result (f one.now))
    → behind l.found (collect (map f (drop l.one-index l.all))) ≡ collect (map f l.fn.all)
