-- Numbers counted in lists: one more number, and one list of many changed.
use Rattle.std.proofs.Common.{◌≡◌, ℕ, ◌+◌, List, [], ◌∷◌, ◌++◌, arith, cond, eqb}
use Rattle.std.proofs.lemmas.Bool.Decides.{nat_tests}
use Rattle.std.proofs.lemmas.List.Sums.{sum_by-append}
use Rattle.run_core.specs.Counts.{times, once_below}

pub times_push : (x : ℕ) (xs : List ℕ) (y : ℕ) → times x (xs ++ y ∷ []) ≡ times x xs + times x (y ∷ [])
times_push x xs y = sum_by-append (λ z. cond (eqb z x) 1 0) xs (y ∷ [])

pub times_cons : (x : ℕ) (y : ℕ) (ys : List ℕ) → times x (y ∷ ys) ≡ times x (y ∷ []) + times x ys
times_cons x y ys = sum_by-append (λ z. cond (eqb z x) 1 0) (y ∷ []) ys

-- the numbers below n, and n
pub once_more : (x n : ℕ) → once_below x (n + 1) ≡ once_below x n + times x (n ∷ [])
once_more x n = grind (arith, nat_tests)

pub once_none : (x : ℕ) → once_below x 0 ≡ 0
once_none x = grind (arith, nat_tests)
