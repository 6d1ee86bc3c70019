-- Keys whose bytes are equal are equal.
use Rattle.std.proofs.Common.{◌≡◌, ◌∙◌, ℕ, suc, ◌^◌, ◌<◌, ◌+◌, List, [], ◌∷◌, ◌++◌, ℤ, Bool, true, false, length, take, drop, refl, ap, sym, subst, arith}
use Rattle.std.specs.Prelude.{FitsSigned, get_or}
use Rattle.std.specs.List.{All, flat_map}
use Rattle.std.specs.Int.{Width, w64, w128, cast_signed, cast_unsigned}
use mir.Val.{bits}
use Rattle.byteorder.specs.Endian.{little_bytes, little_from}
use Rattle.byteorder.specs.Numbers.{little_number-reads_back}
use Rattle.std.proofs.lemmas.Int.{to_z-of_z}
use Rattle.std.proofs.lemmas.List.{append_assoc, append_cancel_left}
use Rattle.std.proofs.lemmas.List.Concat.{flat_map-cons}
use Rattle.std.proofs.lemmas.List.Elements.{All-head, All-rest}
use Rattle.std.proofs.Math.Facts.{Fits-of_z}
use Rattle.std.proofs.Math.Seq.{take-append_seam, drop-append_seam}
use Rattle.sub_types.specs.declared.value.Value.{Value}
use Rattle.sub_types.specs.declared.value.Value.TheVariants as values
use Rattle.row_keys.specs.KeyBytes.{value_bytes, bytes_of_key, IsHeld}

-- numbers of one width, whatever follows them
numbers : (n a b : ℕ) (r s : List ℕ) → a < 256 ^ n → b < 256 ^ n → little_bytes n a ++ r ≡ little_bytes n b ++ s → (a ≡ b) × (r ≡ s)
numbers n a b r s below_a below_b e =
    let same : a ≡ b = sym (little_number-reads_back n a r below_a) ∙ ap (little_from 0 n) e ∙ little_number-reads_back n b s below_b in
    (same, append_cancel_left (little_bytes n b) r s (subst (λ m. little_bytes n m ++ r ≡ little_bytes n b ++ s) same e))

signed : (w : Width) (n : ℕ) → 256 ^ n ≡ 2 ^ bits w → (a b : ℤ) (r s : List ℕ) → FitsSigned w a → FitsSigned w b → little_bytes n (cast_unsigned w a) ++ r ≡ little_bytes n (cast_unsigned w b) ++ s → (a ≡ b) × (r ≡ s)
signed w n wide a b r s fits_a fits_b e =
    let below_a : cast_unsigned w a < 256 ^ n = subst (λ m. cast_unsigned w a < m) (sym wide) (Fits-of_z fits_a).fits in
    let below_b : cast_unsigned w b < 256 ^ n = subst (λ m. cast_unsigned w b < m) (sym wide) (Fits-of_z fits_b).fits in
    let same = numbers n (cast_unsigned w a) (cast_unsigned w b) r s below_a below_b e in
    (sym (to_z-of_z w a fits_a) ∙ ap (cast_signed w) same.0 ∙ to_z-of_z w b fits_b, same.1)

-- lists of one length, whatever follows them
as_long : (xs ys r s : List ℕ) → length xs ≡ length ys → xs ++ r ≡ ys ++ s → (xs ≡ ys) × (r ≡ s)
as_long xs ys r s long e = (
  sym (take-append_seam xs r) ∙ ap (take (length xs)) e ∙ ap (λ n. take n (ys ++ s)) long ∙ take-append_seam ys s,
  sym (drop-append_seam xs r) ∙ ap (drop (length xs)) e ∙ ap (λ n. drop n (ys ++ s)) long ∙ drop-append_seam ys s,
)

texts : (xs ys r s : List ℕ) → length xs < 2 ^ 64 → length ys < 2 ^ 64 → (little_bytes 8 (length xs) ++ xs) ++ r ≡ (little_bytes 8 (length ys) ++ ys) ++ s → (xs ≡ ys) × (r ≡ s)
texts xs ys r s short_x short_y e =
    let whole = sym (append_assoc (little_bytes 8 (length xs)) xs r) ∙ e ∙ append_assoc (little_bytes 8 (length ys)) ys s in
    let both = numbers 8 (length xs) (length ys) (xs ++ r) (ys ++ s) short_x short_y whole in
    as_long xs ys r s both.0 both.1

heads : (m n : ℕ) (xs ys : List ℕ) → m ∷ xs ≡ n ∷ ys → m ≡ n
heads m n xs ys e = ap (λ zs. get_or zs 0 0) e

tails : (m n : ℕ) (xs ys : List ℕ) → m ∷ xs ≡ n ∷ ys → xs ≡ ys
tails m n xs ys e = ap (drop 1) e

-- a value and what follows it

one_value : (a b : Value) (r s : List ℕ) → IsHeld a → IsHeld b → value_bytes a ++ r ≡ value_bytes b ++ s → (a ≡ b) × (r ≡ s)
one_value values.Null values.Null r s held_a held_b e = (refl, tails 0 0 r s e)
one_value values.Null (values.Bool false) r s held_a held_b e = let same = heads 0 1 r s e in absurd (omega (arith, same))
one_value values.Null (values.Bool true) r s held_a held_b e = let same = heads 0 2 r s e in absurd (omega (arith, same))
one_value values.Null (values.Int y) r s held_a held_b e = let same = heads 0 3 r (little_bytes 8 (cast_unsigned w64 y) ++ s) e in absurd (omega (arith, same))
one_value values.Null (values.Dec y) r s held_a held_b e = let same = heads 0 4 r (little_bytes 16 (cast_unsigned w128 y) ++ s) e in absurd (omega (arith, same))
one_value values.Null (values.Bytes y) r s held_a held_b e = let same = heads 0 5 r ((little_bytes 8 (length y) ++ y) ++ s) e in absurd (omega (arith, same))
one_value (values.Bool false) values.Null r s held_a held_b e = let same = heads 1 0 r s e in absurd (omega (arith, same))
one_value (values.Bool false) (values.Bool false) r s held_a held_b e = (refl, tails 1 1 r s e)
one_value (values.Bool false) (values.Bool true) r s held_a held_b e = let same = heads 1 2 r s e in absurd (omega (arith, same))
one_value (values.Bool false) (values.Int y) r s held_a held_b e = let same = heads 1 3 r (little_bytes 8 (cast_unsigned w64 y) ++ s) e in absurd (omega (arith, same))
one_value (values.Bool false) (values.Dec y) r s held_a held_b e = let same = heads 1 4 r (little_bytes 16 (cast_unsigned w128 y) ++ s) e in absurd (omega (arith, same))
one_value (values.Bool false) (values.Bytes y) r s held_a held_b e = let same = heads 1 5 r ((little_bytes 8 (length y) ++ y) ++ s) e in absurd (omega (arith, same))
one_value (values.Bool true) values.Null r s held_a held_b e = let same = heads 2 0 r s e in absurd (omega (arith, same))
one_value (values.Bool true) (values.Bool false) r s held_a held_b e = let same = heads 2 1 r s e in absurd (omega (arith, same))
one_value (values.Bool true) (values.Bool true) r s held_a held_b e = (refl, tails 2 2 r s e)
one_value (values.Bool true) (values.Int y) r s held_a held_b e = let same = heads 2 3 r (little_bytes 8 (cast_unsigned w64 y) ++ s) e in absurd (omega (arith, same))
one_value (values.Bool true) (values.Dec y) r s held_a held_b e = let same = heads 2 4 r (little_bytes 16 (cast_unsigned w128 y) ++ s) e in absurd (omega (arith, same))
one_value (values.Bool true) (values.Bytes y) r s held_a held_b e = let same = heads 2 5 r ((little_bytes 8 (length y) ++ y) ++ s) e in absurd (omega (arith, same))
one_value (values.Int x) values.Null r s held_a held_b e = let same = heads 3 0 (little_bytes 8 (cast_unsigned w64 x) ++ r) s e in absurd (omega (arith, same))
one_value (values.Int x) (values.Bool false) r s held_a held_b e = let same = heads 3 1 (little_bytes 8 (cast_unsigned w64 x) ++ r) s e in absurd (omega (arith, same))
one_value (values.Int x) (values.Bool true) r s held_a held_b e = let same = heads 3 2 (little_bytes 8 (cast_unsigned w64 x) ++ r) s e in absurd (omega (arith, same))
one_value (values.Int x) (values.Int y) r s held_a held_b e =
    let same = signed w64 8 refl x y r s held_a held_b (tails 3 3 (little_bytes 8 (cast_unsigned w64 x) ++ r) (little_bytes 8 (cast_unsigned w64 y) ++ s) e) in
    (ap (λ v. values.Int v) same.0, same.1)
one_value (values.Int x) (values.Dec y) r s held_a held_b e = let same = heads 3 4 (little_bytes 8 (cast_unsigned w64 x) ++ r) (little_bytes 16 (cast_unsigned w128 y) ++ s) e in absurd (omega (arith, same))
one_value (values.Int x) (values.Bytes y) r s held_a held_b e = let same = heads 3 5 (little_bytes 8 (cast_unsigned w64 x) ++ r) ((little_bytes 8 (length y) ++ y) ++ s) e in absurd (omega (arith, same))
one_value (values.Dec x) values.Null r s held_a held_b e = let same = heads 4 0 (little_bytes 16 (cast_unsigned w128 x) ++ r) s e in absurd (omega (arith, same))
one_value (values.Dec x) (values.Bool false) r s held_a held_b e = let same = heads 4 1 (little_bytes 16 (cast_unsigned w128 x) ++ r) s e in absurd (omega (arith, same))
one_value (values.Dec x) (values.Bool true) r s held_a held_b e = let same = heads 4 2 (little_bytes 16 (cast_unsigned w128 x) ++ r) s e in absurd (omega (arith, same))
one_value (values.Dec x) (values.Int y) r s held_a held_b e = let same = heads 4 3 (little_bytes 16 (cast_unsigned w128 x) ++ r) (little_bytes 8 (cast_unsigned w64 y) ++ s) e in absurd (omega (arith, same))
one_value (values.Dec x) (values.Dec y) r s held_a held_b e =
    let same = signed w128 16 refl x y r s held_a held_b (tails 4 4 (little_bytes 16 (cast_unsigned w128 x) ++ r) (little_bytes 16 (cast_unsigned w128 y) ++ s) e) in
    (ap (λ v. values.Dec v) same.0, same.1)
one_value (values.Dec x) (values.Bytes y) r s held_a held_b e = let same = heads 4 5 (little_bytes 16 (cast_unsigned w128 x) ++ r) ((little_bytes 8 (length y) ++ y) ++ s) e in absurd (omega (arith, same))
one_value (values.Bytes x) values.Null r s held_a held_b e = let same = heads 5 0 ((little_bytes 8 (length x) ++ x) ++ r) s e in absurd (omega (arith, same))
one_value (values.Bytes x) (values.Bool false) r s held_a held_b e = let same = heads 5 1 ((little_bytes 8 (length x) ++ x) ++ r) s e in absurd (omega (arith, same))
one_value (values.Bytes x) (values.Bool true) r s held_a held_b e = let same = heads 5 2 ((little_bytes 8 (length x) ++ x) ++ r) s e in absurd (omega (arith, same))
one_value (values.Bytes x) (values.Int y) r s held_a held_b e = let same = heads 5 3 ((little_bytes 8 (length x) ++ x) ++ r) (little_bytes 8 (cast_unsigned w64 y) ++ s) e in absurd (omega (arith, same))
one_value (values.Bytes x) (values.Dec y) r s held_a held_b e = let same = heads 5 4 ((little_bytes 8 (length x) ++ x) ++ r) (little_bytes 16 (cast_unsigned w128 y) ++ s) e in absurd (omega (arith, same))
one_value (values.Bytes x) (values.Bytes y) r s held_a held_b e =
    let same = texts x y r s held_a held_b (tails 5 5 ((little_bytes 8 (length x) ++ x) ++ r) ((little_bytes 8 (length y) ++ y) ++ s) e) in
    (ap (λ v. values.Bytes v) same.0, same.1)

never_empty : (v : Value) (r : List ℕ) → [] ≡ value_bytes v ++ r → ⊥
never_empty values.Null r e = absurd (cc)
never_empty (values.Bool false) r e = absurd (cc)
never_empty (values.Bool true) r e = absurd (cc)
never_empty (values.Int x) r e = absurd (cc)
never_empty (values.Dec x) r e = absurd (cc)
never_empty (values.Bytes x) r e = absurd (cc)

pub same_keys : (xs ys : List Value) → All IsHeld xs → All IsHeld ys → bytes_of_key xs ≡ bytes_of_key ys → xs ≡ ys
same_keys [] [] held_x held_y e = refl
same_keys [] (y ∷ ys) held_x held_y e = absurd (never_empty y (bytes_of_key ys) (e ∙ flat_map-cons value_bytes y ys))
same_keys (x ∷ xs) [] held_x held_y e = absurd (never_empty x (bytes_of_key xs) (sym e ∙ flat_map-cons value_bytes x xs))
same_keys (x ∷ xs) (y ∷ ys) held_x held_y e =
    let whole = sym (flat_map-cons value_bytes x xs) ∙ e ∙ flat_map-cons value_bytes y ys in
    let both = one_value x y (bytes_of_key xs) (bytes_of_key ys) (All-head IsHeld x xs held_x) (All-head IsHeld y ys held_y) whole in
    let rest = same_keys xs ys (All-rest IsHeld x xs (x ∷ xs) refl held_x) (All-rest IsHeld y ys (y ∷ ys) refl held_y) both.1 in
    ap (λ v. v ∷ xs) both.0 ∙ ap (λ vs. y ∷ vs) rest
