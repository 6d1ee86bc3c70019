-- Sums of numbers.
use Rattle.std.specs.Prelude.{◌^◌, ℤ, pos, ◌+ℤ◌, ◌*ℤ◌, List, [], ◌∷◌}

-- the sum of the numbers of values
abbrev pub total : {T : Type 0} → (T → ℤ) → List T → ℤ
total number [] = pos 0
total number (x ∷ xs) = number x +ℤ total number xs

-- the number that a quotient by 10 to the 19 and a remainder make
abbrev pub number_of : ℤ → ℤ → ℤ
number_of quotient remainder = (quotient *ℤ pos (10 ^ 19)) +ℤ remainder
