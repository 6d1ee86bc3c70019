-- What is there, and the orders by the keys that are left, are those by all.
use Rattle.std.proofs.Common.{◌≡◌, ◌++◌, drop}
use Rattle.rel_parts.specs.Parts.{orders_from}
use Rattle.rel_parts.proofs.sorts.key_orders.Given as goal

abbrev pub invariant-loop-key : goal.invariant-loop-key
invariant-loop-key l = l.orders.items ++ orders_from l.column (drop l.key-index l.keys) ≡ orders_from l.width l.keys
