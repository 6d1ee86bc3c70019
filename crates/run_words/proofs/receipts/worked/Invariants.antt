use Rattle.std.proofs.Common.{◌≡◌, []}
use Rattle.std.specs.List.{range_with_len}
use Rattle.run_words.proofs.receipts.worked.Given as goal

abbrev pub invariant-loop-number : goal.invariant-loop-number
invariant-loop-number l = record {
  claimed : l.receipt.claimed.items ≡ range_with_len 0 l.number;
  finished : l.receipt.finished.items ≡ range_with_len 0 l.number;
  offered : l.receipt.offered.items ≡ [];
  taken : l.receipt.taken.items ≡ [];
}
