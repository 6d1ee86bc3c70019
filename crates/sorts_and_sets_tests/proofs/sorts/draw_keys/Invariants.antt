use Rattle.std.proofs.Common.{◌<◌, All}
use Rattle.rel_specs.specs.declared.key_order.KeyOrder.{KeyOrder}
use Rattle.sorts_and_sets_tests.proofs.sorts.draw_keys.Given as goal

-- the keys so far
abbrev pub invariant-loop : goal.invariant-loop
invariant-loop l = All (λ (key : KeyOrder). key.column < 2) l.keys.items
