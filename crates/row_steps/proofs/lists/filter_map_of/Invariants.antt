use Rattle.std.proofs.Common.{◌≡◌, ◌++◌, Option, IfOk, drop}
use Rattle.std.specs.List.{filter_map}
use Rattle.row_steps.proofs.lists.filter_map_of.Given as goal

-- what is made so far, and what comes of what is left
abbrev pub invariant-loop-one : goal.invariant-loop-one
invariant-loop-one g l =
    (f : g.row.A.Denot → Option g.row.B.Denot) → ((one : _) (result : _) → goal.F-post g l.fn.made one result → IfOk result (λ found. found ≡ f one.now))
    → l.found ++ filter_map f (drop l.one-index l.all) ≡ filter_map f l.fn.all
