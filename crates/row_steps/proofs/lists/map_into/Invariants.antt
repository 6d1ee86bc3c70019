use Rattle.std.proofs.Common.{◌≡◌, ◌++◌, IfOk, map}
use Rattle.row_steps.proofs.lists.map_into.Given as goal

-- what is made so far, and what comes of what is left
abbrev pub invariant-loop-one : goal.invariant-loop-one
invariant-loop-one g l =
    (f : g.row.A.Denot → g.row.B.Denot) → ((one : _) (result : _) → goal.F-post g l.fn.made one result → IfOk result (λ found. found ≡ f one))
    → l.found ++ map f l.one-iterator.rest.items ≡ map f l.fn.all
