use Rattle.std.proofs.Common.{◌≡◌, map, replicate}
use Rattle.run_core.specs.Receipts.{lists_of, no_lists}
use Rattle.run_core.proofs.run.empty_receipts.Given as goal

abbrev pub invariant-loop : goal.invariant-loop
invariant-loop l = map lists_of l.receipts.items ≡ replicate l.counter no_lists
