-- Numbers of a width, written as bytes and read back: one lemma for all widths.
use Rattle.std.proofs.Common.{◌≡◌, ◌∙◌, ℕ, suc, ◌^◌, ◌<◌, List, [], ℤ, slice_index, ap, sym, subst, arith}
use Rattle.std.specs.Prelude.{FitsSigned}
use Rattle.std.specs.Int.{Width, cast_signed, cast_unsigned}
use mir.Val.{bits}
use Rattle.byteorder.specs.Endian.{little_bytes, little_number}
use Rattle.byteorder.specs.Numbers.{little_number-reads_back, little_from-lt}
use Rattle.std.proofs.lemmas.List.{append-nil}
use Rattle.std.proofs.lemmas.Int.{to_z-of_z}
use Rattle.std.proofs.Math.Facts.{sfits_to_z, Fits-of_z}

-- a number takes a byte at least
pub has_bytes : (n : ℕ) → 0 < suc n
has_bytes n = omega arith

-- reading the bytes that a number was written as gives the number
pub reads_back : (w : Width) (n : ℕ) → 256 ^ n ≡ 2 ^ bits w → (x : ℤ) → FitsSigned w x → cast_signed w (little_number n (little_bytes n (cast_unsigned w x))) ≡ x
reads_back w n wide x fits =
    let below : cast_unsigned w x < 256 ^ n = subst (λ m. cast_unsigned w x < m) (sym wide) (Fits-of_z fits).fits in
    let read = little_number-reads_back n (cast_unsigned w x) [] below in
    let same : little_number n (little_bytes n (cast_unsigned w x)) ≡ cast_unsigned w x = ap (little_number n) (sym (append-nil (little_bytes n (cast_unsigned w x)))) ∙ read in
    ap (cast_signed w) same ∙ to_z-of_z w x fits

-- a number that was read fits the width
pub read_fits : (w : Width) (n : ℕ) → 256 ^ n ≡ 2 ^ bits w → (bytes : List ℕ) → ((i : ℕ) → slice_index bytes i < 256) → FitsSigned w (cast_signed w (little_number n bytes))
read_fits w n wide bytes all =
    let below : little_number n bytes < 2 ^ bits w = subst (λ m. little_number n bytes < m) wide (little_from-lt 0 n bytes all) in
    sfits_to_z (record { fits = below })
