-- Counts of faults that rise as readers are given back.
use Rattle.std.proofs.Common.{◌≡◌, ℕ, zero, suc, ◌+◌, ◌<◌, ◌≤◌, arith}
use Rattle.world.specs.Counts.{Rose, sum_of_counts}

-- one reader more was given back
pub rose_next : (old mid new all left rest own : ℕ) → left ≡ own + rest → old ≤ mid → mid ≤ new → new ≡ sum_of_counts mid own → (left < all → Rose old mid) → rest < all → Rose old new
rose_next old mid new all left rest zero split rises more is before less =
    let first : Rose old mid = before (omega (arith, split, less)) in
    omega (arith, first, more)
rose_next old mid new all left rest (suc own) split rises more is before less = omega (arith, rises, is)

-- where a count of faults rose, it isn't 0
pub rose_some : (before now : ℕ) → Rose before now → 0 < now
rose_some before now rose = omega (arith, rose)
