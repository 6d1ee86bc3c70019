use Rattle.std.proofs.Common.{◌≡◌, ◌*◌, ◌^◌, ◌≤◌, drop, pos, ◌+ℤ◌, ◌*ℤ◌}
use Rattle.std.specs.Prelude.{unsigned_abs}
use Rattle.plan_denote.specs.Tally.{total_of}
use Rattle.row_tallies.proofs.total.sum_of.Given as goal

-- the sum so far and the numbers that are left
abbrev pub invariant-loop-value : goal.invariant-loop-value
invariant-loop-value l = record {
  total : ((l.high *ℤ pos (2 ^ 64)) +ℤ l.low) +ℤ total_of (drop l.value-index l.values) ≡ total_of l.fn.values;
  high_bound : unsigned_abs l.high ≤ l.value-index * 2 ^ 63;
  low_bound : unsigned_abs l.low ≤ l.value-index * 2 ^ 64;
}
