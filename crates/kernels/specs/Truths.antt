-- Three-valued logic on optional truth values, as two bits hold one: whether it is true, and whether it is there.
use Rattle.std.specs.Prelude.{◌≡◌, ℕ, ◌-◌, ◌<◌, List, length, slice_index, bit_and, bit_or, bit_xor, Bool, true, false, not, Option, Some, None, ◌==◌, if◌then◌else◌}
use Rattle.std.specs.Int.{bit_at}
use Rattle.std.proofs.Math.Bool.{beq}
use Rattle.kernels.specs.declared.logic.Connective.{Connective}
use Rattle.kernels.specs.declared.logic.Connective.TheVariants.{And, Or, Xor, Not}

-- whether a bit of a byte is set
abbrev pub is_set : ℕ → ℕ → Bool
is_set byte k = bit_at byte k == 1

-- the truth value that a bit of a byte of values and one of validity hold
abbrev pub truth_at : ℕ → ℕ → ℕ → Option Bool
truth_at value valid k = if is_set valid k then Some (is_set value k) else None

abbrev pub both : Option Bool → Option Bool → Option Bool
both (Some false) b = Some false
both (Some true) b = b
both None (Some false) = Some false
both None _ = None

abbrev pub either : Option Bool → Option Bool → Option Bool
either (Some true) b = Some true
either (Some false) b = b
either None (Some true) = Some true
either None _ = None

abbrev pub differ : Option Bool → Option Bool → Option Bool
differ (Some a) (Some b) = Some (not (beq a b))
differ _ _ = None

abbrev pub opposite : Option Bool → Option Bool
opposite (Some a) = Some (not a)
opposite None = None

abbrev pub connected : Connective → Option Bool → Option Bool → Option Bool
connected And a b = both a b
connected Or a b = either a b
connected Xor a b = differ a b
connected Not a b = opposite a

-- the values and the validity of eight places: a byte of each, from those of both columns
abbrev pub value_eight : Connective → ℕ → ℕ → ℕ → ℕ → ℕ
value_eight And a a_valid b b_valid = bit_and a b
value_eight Or a a_valid b b_valid = bit_or (bit_and a a_valid) (bit_and b b_valid)
value_eight Xor a a_valid b b_valid = bit_xor a b
value_eight Not a a_valid b b_valid = 255 - a

abbrev pub valid_eight : Connective → ℕ → ℕ → ℕ → ℕ → ℕ
valid_eight And a a_valid b b_valid = bit_or (bit_or (bit_and a_valid b_valid) (bit_and a_valid (255 - a))) (bit_and b_valid (255 - b))
valid_eight Or a a_valid b b_valid = bit_or (bit_or (bit_and a_valid b_valid) (bit_and a_valid a)) (bit_and b_valid b)
valid_eight Xor a a_valid b b_valid = bit_and a_valid b_valid
valid_eight Not a a_valid b b_valid = a_valid

-- the first so many bytes are what a function makes of those of both columns
pub record AreMade (f : ℕ → ℕ → ℕ → ℕ → ℕ) (a a_valid b b_valid bytes : List ℕ) (count : ℕ) : Type 0 where
  pub long : length bytes ≡ length a
  pub made : (k : ℕ) → k < count → slice_index bytes k ≡ f (slice_index a k) (slice_index a_valid k) (slice_index b k) (slice_index b_valid k)
