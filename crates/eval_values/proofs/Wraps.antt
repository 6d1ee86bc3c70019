-- What is left of a number in the bits of a kind of whole numbers.
use Rattle.std.specs.Prelude.{◌≡◌, ◌^◌, ℤ, pos, unsigned_abs}
use mir.Syntax.{Width}
use mir.Val.{bits}
use Rattle.std.specs.Int.{w128, int_rem_euclid, int_wrap}
use Rattle.std.proofs.Common.{ap, ◌∙◌, FitsSigned, to_z, of_z}
use Rattle.std.proofs.lemmas.Int.{to_z-of_z}

-- what is left of a number in a kind's bits, as the code takes it from a remainder
pub left_in : (w : Width) (n q r : ℤ) → FitsSigned w128 n → FitsSigned w128 q → FitsSigned w r → q ≡ int_rem_euclid (to_z w128 (of_z w128 n)) (pos (2 ^ bits w)) → r ≡ to_z w (unsigned_abs (to_z w128 (of_z w128 q))) → to_z w (of_z w r) ≡ int_wrap w n
unfolding int_wrap
left_in w n q r fn fq fr e k =
    to_z-of_z w r fr
    ∙ k
    ∙ ap (λ z. to_z w (unsigned_abs z)) (to_z-of_z w128 q fq ∙ e ∙ ap (λ z. int_rem_euclid z (pos (2 ^ bits w))) (to_z-of_z w128 n fn))
