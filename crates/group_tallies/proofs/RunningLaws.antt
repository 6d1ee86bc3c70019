-- Sums in two parts.
use Rattle.std.proofs.Common.{◌≡◌, ◌∙◌, ◌^◌, ◌<◌, pos, ℤ, ◌+ℤ◌, ◌*ℤ◌, to_z, of_z, ap, arith}
use Rattle.std.specs.Prelude.{unsigned_abs, int_div, int_rem}
use Rattle.std.specs.Int.{w128}
use Rattle.std.proofs.lemmas.Int.{ints, quot-rem, to_z-of_z, fits_signed_from_abs}
use Rattle.group_tallies.specs.Totals.{number_of_parts}

-- a sum that 128 bits hold
sum_is : (a b : ℤ) → unsigned_abs a < 2 ^ 127 → unsigned_abs b < 2 ^ 127 → unsigned_abs (a +ℤ b) < 2 ^ 127 → to_z w128 (of_z w128 (to_z w128 (of_z w128 a) +ℤ to_z w128 (of_z w128 b))) ≡ a +ℤ b
sum_is a b h k s =
    ap (λ z. to_z w128 (of_z w128 (z +ℤ to_z w128 (of_z w128 b)))) (to_z-of_z w128 a (fits_signed_from_abs w128 a h))
    ∙ ap (λ z. to_z w128 (of_z w128 (a +ℤ z))) (to_z-of_z w128 b (fits_signed_from_abs w128 b k))
    ∙ to_z-of_z w128 (a +ℤ b) (fits_signed_from_abs w128 (a +ℤ b) s)

regrouped : (a b c d : ℤ) → number_of_parts (a +ℤ b) (c +ℤ d) ≡ number_of_parts a c +ℤ number_of_parts b d
regrouped a b c d = omega (arith, ints)

short_sum : (a b : ℤ) → unsigned_abs a < 2 ^ 126 → unsigned_abs b < 2 ^ 126 → unsigned_abs (a +ℤ b) < 2 ^ 127
short_sum a b h k = omega (arith, ints)

-- the sums of both parts
pub both_sums : (a b c d : ℤ) → unsigned_abs a < 2 ^ 126 → unsigned_abs b < 2 ^ 126 → unsigned_abs c < 2 ^ 127 → unsigned_abs d < 2 ^ 127 → unsigned_abs (c +ℤ d) < 2 ^ 127
    → number_of_parts (to_z w128 (of_z w128 (to_z w128 (of_z w128 a) +ℤ to_z w128 (of_z w128 b)))) (to_z w128 (of_z w128 (to_z w128 (of_z w128 c) +ℤ to_z w128 (of_z w128 d)))) ≡ number_of_parts a c +ℤ number_of_parts b d
both_sums a b c d ha hb hc hd s =
    ap (λ z. number_of_parts z (to_z w128 (of_z w128 (to_z w128 (of_z w128 c) +ℤ to_z w128 (of_z w128 d))))) (sum_is a b (omega arith) (omega arith) (short_sum a b ha hb))
    ∙ ap (number_of_parts (a +ℤ b)) (sum_is c d hc hd s)
    ∙ regrouped a b c d

-- a number by its parts
pub whole_of : (high low number : ℤ) → high ≡ int_div number (pos (2 ^ 64)) → low ≡ int_rem number (pos (2 ^ 64)) → number_of_parts high low ≡ number
whole_of high low number h l =
    ap (λ z. number_of_parts z low) h ∙ ap (number_of_parts (int_div number (pos (2 ^ 64)))) l ∙ quot-rem number (pos (2 ^ 64))
