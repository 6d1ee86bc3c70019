use Rattle.std.proofs.Common.{◌≡◌, map, length}
use Rattle.run_core.specs.Receipts.{lists_of}
use Rattle.run_words.specs.Alone.{workers_alone}
use Rattle.run_words.proofs.receipts.worker_receipts.Given as goal

abbrev pub invariant-loop : goal.invariant-loop
invariant-loop l = record {
  lists : map lists_of l.receipts.items ≡ workers_alone l.batches l.counter;
  len : length l.receipts.items ≡ l.counter;
}
