use Rattle.std.proofs.Common.{◌≡◌, ◌++◌, map}
use Rattle.std.specs.Vec.Iter.{into_iter_items}
use Rattle.plan_verdict.specs.declared.groups.Group.{Group}
use Rattle.plan_keys.proofs.group_index.exprs_of.Given as goal

-- with those of what is left they are those of all
abbrev pub invariant-loop-group : goal.invariant-loop-group
invariant-loop-group l = l.exprs ++ map (λ (group : Group). group.expr) (into_iter_items l.group-iterator) ≡ map (λ (group : Group). group.expr) l.fn.groups
