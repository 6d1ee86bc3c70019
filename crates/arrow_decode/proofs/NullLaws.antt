-- Texts of which none is null.
use Rattle.std.proofs.Common.{◌≡◌, ℕ, zero, suc, List, [], ◌∷◌, Bool, true, length, replicate, sym, subst}
use Rattle.col_text.specs.Text.{NullsAreEmpty}

without_null : (ends : List ℕ) (start n : ℕ) → NullsAreEmpty start ends (replicate n true)
without_null [] start zero = tt
without_null [] start (suc n) = tt
without_null (end ∷ ends) start zero = tt
without_null (end ∷ ends) start (suc n) = without_null ends end n

-- where none is null no null has bytes
pub all_valid : (ends : List ℕ) (valid : List Bool) → valid ≡ replicate (length valid) true → NullsAreEmpty 0 ends valid
all_valid ends valid all =
    let P : List Bool → Type 0 = λ bits. NullsAreEmpty 0 ends bits in
    subst P (sym all) (without_null ends 0 (length valid))
