use Rattle.std.proofs.Common.{◌≡◌, map, take}
use Rattle.plan_typed.specs.declared.rel.SortKey.{SortKey}
use Rattle.rel_parts.proofs.sorts.key_exprs.Given as goal

abbrev pub invariant-loop-key : goal.invariant-loop-key
invariant-loop-key l = l.exprs.items ≡ map (λ (key : SortKey). key.expr) (take l.key-index l.keys)
