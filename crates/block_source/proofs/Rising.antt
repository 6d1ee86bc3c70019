-- Counts of faults that rose, and their sums.
use Rattle.std.proofs.Common.{◌≡◌, ℕ, ◌+◌, ◌<◌, ◌≤◌, List, sum_by, length, set, get_or, arith}
use Rattle.std.proofs.lemmas.List.Sums.{sum_by-set, get_or-le-sum_by}
use Rattle.world.specs.Counts.{Rose}

summed : (a b s t : ℕ) → t + a ≡ s + b → a ≤ s → Rose a b → Rose s t
summed a b s t e le rose = omega (arith, e, le, rose)

-- the sum rises where one of its parts rises
pub rose_in : {R : Type 0} (f : R → ℕ) (rs : List R) (i : ℕ) (d r : R) → i < length rs → Rose (f (get_or rs i d)) (f r) → Rose (sum_by f rs) (sum_by f (set rs i r))
rose_in f rs i d r below rose =
    summed (f (get_or rs i d)) (f r) (sum_by f rs) (sum_by f (set rs i r)) (omega (arith, sum_by-set f rs i r d below)) (get_or-le-sum_by f rs i d below) rose
