use Rattle.std.proofs.Common.{◌≡◌, ℕ, ◌<◌, false, None, slice_index_or}
use Rattle.table_rows.specs.Read.{is_long}
use Rattle.table_rows.proofs.columns.first_long.Given as goal

abbrev pub invariant-loop-i : goal.invariant-loop-i
invariant-loop-i l = (k : ℕ) → k < l.i → is_long (slice_index_or l.texts k None) ≡ false
