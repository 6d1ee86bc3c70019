use Rattle.std.proofs.Common.{◌≡◌, ℕ, ◌<◌, false, not, slice_index_or}
use Rattle.table_rows.proofs.bits.first_false.Given as goal

abbrev pub invariant-loop-i : goal.invariant-loop-i
invariant-loop-i l = (k : ℕ) → k < l.i → not (slice_index_or l.bits k false) ≡ false
