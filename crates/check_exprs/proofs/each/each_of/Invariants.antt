use Rattle.std.proofs.Common.{drop, map}
use Rattle.plan_verdict.specs.Checking.{Checking, Comes, in_order}
use Rattle.check_exprs.proofs.OrderLaws.{Left}
use Rattle.check_exprs.proofs.each.each_of.Given as goal

-- what is checked so far, and the checks of what is left
abbrev pub invariant-loop-one : goal.invariant-loop-one
invariant-loop-one g l =
    (f : g.row.T.Denot → Checking g.row.A.Denot) → ((progress : _) (one : _) (result : _) → goal.F-post g l.fn.check progress one result → Comes result (f one.now progress))
    → Left f (drop l.one-index l.all) l.checked l.progress (in_order (map f l.fn.all) l.fn.progress)
