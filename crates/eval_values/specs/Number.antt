-- Whole numbers of any size, as 128 and as 64 bits hold them.
use Rattle.std.specs.Prelude.{◌≡◌, ℕ, ◌^◌, ◌<◌, ◌≤◌, ℤ, List, Option, Some, None, unsigned_abs}
use Rattle.plan_denote.specs.Decimals.{MAX_DIGITS}
use Rattle.plan_denote.specs.Casts.{unsigned_of, number_of}

-- the number, which is missing only where it has more digits than a decimal may have
abbrev pub IsNumber : Option ℤ → ℤ → Type 0
IsNumber (Some n) exact = n ≡ exact
IsNumber None exact = 10 ^ MAX_DIGITS ≤ unsigned_abs exact

-- the number, which is missing only where ten times it, give or take a digit, has more digits than that
abbrev pub IsTens : Option ℤ → ℤ → Type 0
IsTens (Some n) exact = n ≡ exact
IsTens None exact = 10 ^ 37 < unsigned_abs exact

-- the number that digits write, which is missing only where they write none, or one beyond 64 bits
abbrev pub IsUnsigned : Option ℕ → List ℕ → Type 0
IsUnsigned (Some n) digits = unsigned_of digits ≡ Some n
IsUnsigned None digits = (n : ℕ) → unsigned_of digits ≡ Some n → 2 ^ 64 ≤ n

-- the same with a sign
abbrev pub IsWritten : Option ℤ → List ℕ → Type 0
IsWritten (Some n) text = number_of text ≡ Some n
IsWritten None text = (n : ℤ) → number_of text ≡ Some n → 2 ^ 64 ≤ unsigned_abs n
