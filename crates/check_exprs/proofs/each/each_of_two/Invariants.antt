use Rattle.std.proofs.Common.{map}
use Rattle.std.specs.List.{zip}
use Rattle.plan_verdict.specs.Checking.{Checking, Comes, in_order}
use Rattle.check_exprs.proofs.OrderLaws.{Left}
use Rattle.check_exprs.proofs.each.each_of_two.Given as goal

-- what is checked so far, and the checks of what is left
abbrev pub invariant-loop-first : goal.invariant-loop-first
invariant-loop-first g l =
    (f : g.row.T.Denot → g.row.U.Denot → Checking g.row.A.Denot) → ((progress : _) (first : _) (second : _) (result : _) → goal.F-post g l.fn.check progress first second result → Comes result (f first.now second.now progress))
    → Left (λ pair. f pair.0 pair.1) (zip l.first-iterator.a.rest.now l.first-iterator.b.rest.now) l.checked l.progress (in_order (map (λ pair. f pair.0 pair.1) (zip l.fn.firsts l.fn.seconds)) l.fn.progress)
