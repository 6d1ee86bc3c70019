-- Truth values that were packed into bytes are found there.
use Rattle.std.proofs.Common.{◌≡◌, ◌∙◌, ℕ, zero, suc, ◌+◌, ◌*◌, ◌/◌, ◌%◌, ◌^◌, ◌<◌, ◌≤◌, ◌==◌, List, Bool, true, false, length, get_or, refl, sym, ap, arith, if◌then◌else◌, zero-add}
use Rattle.std.specs.List.{range_with_len, sum_by}
use Rattle.std.proofs.lemmas.List.FromFn.{length-map-range_with_len, get_or-map-range_with_len, fill_by_all}
use Rattle.sub_types.specs.Bits.{bit_of, bits_of}
use Rattle.arrow_meta.specs.Buffers.{byte_of_bits, packed}

-- a truth value as a digit
abbrev digit : Bool → ℕ
digit b = if b then 1 else 0

weighed : (b : Bool) (n : ℕ) → (if b then n else 0) ≡ n * digit b
weighed true n = omega arith
weighed false n = omega arith

small : (b : Bool) → digit b ≤ 1
small true = omega arith
small false = omega arith

is_one : (b : Bool) → (digit b == 1) ≡ b
is_one true = refl
is_one false = refl

-- each digit of a number of eight
abbrev eight : ℕ → ℕ → ℕ → ℕ → ℕ → ℕ → ℕ → ℕ → ℕ
eight a b c d e f g h = a + 2 * b + 4 * c + 8 * d + 16 * e + 32 * f + 64 * g + 128 * h

digit_0 : (a b c d e f g h : ℕ) → a ≤ 1 → b ≤ 1 → c ≤ 1 → d ≤ 1 → e ≤ 1 → f ≤ 1 → g ≤ 1 → h ≤ 1 → eight a b c d e f g h / 1 % 2 ≡ a
digit_0 a b c d e f g h p q r s t u v w = omega arith

digit_1 : (a b c d e f g h : ℕ) → a ≤ 1 → b ≤ 1 → c ≤ 1 → d ≤ 1 → e ≤ 1 → f ≤ 1 → g ≤ 1 → h ≤ 1 → eight a b c d e f g h / 2 % 2 ≡ b
digit_1 a b c d e f g h p q r s t u v w = omega arith

digit_2 : (a b c d e f g h : ℕ) → a ≤ 1 → b ≤ 1 → c ≤ 1 → d ≤ 1 → e ≤ 1 → f ≤ 1 → g ≤ 1 → h ≤ 1 → eight a b c d e f g h / 4 % 2 ≡ c
digit_2 a b c d e f g h p q r s t u v w = omega arith

digit_3 : (a b c d e f g h : ℕ) → a ≤ 1 → b ≤ 1 → c ≤ 1 → d ≤ 1 → e ≤ 1 → f ≤ 1 → g ≤ 1 → h ≤ 1 → eight a b c d e f g h / 8 % 2 ≡ d
digit_3 a b c d e f g h p q r s t u v w = omega arith

digit_4 : (a b c d e f g h : ℕ) → a ≤ 1 → b ≤ 1 → c ≤ 1 → d ≤ 1 → e ≤ 1 → f ≤ 1 → g ≤ 1 → h ≤ 1 → eight a b c d e f g h / 16 % 2 ≡ e
digit_4 a b c d e f g h p q r s t u v w = omega arith

digit_5 : (a b c d e f g h : ℕ) → a ≤ 1 → b ≤ 1 → c ≤ 1 → d ≤ 1 → e ≤ 1 → f ≤ 1 → g ≤ 1 → h ≤ 1 → eight a b c d e f g h / 32 % 2 ≡ f
digit_5 a b c d e f g h p q r s t u v w = omega arith

digit_6 : (a b c d e f g h : ℕ) → a ≤ 1 → b ≤ 1 → c ≤ 1 → d ≤ 1 → e ≤ 1 → f ≤ 1 → g ≤ 1 → h ≤ 1 → eight a b c d e f g h / 64 % 2 ≡ g
digit_6 a b c d e f g h p q r s t u v w = omega arith

digit_7 : (a b c d e f g h : ℕ) → a ≤ 1 → b ≤ 1 → c ≤ 1 → d ≤ 1 → e ≤ 1 → f ≤ 1 → g ≤ 1 → h ≤ 1 → eight a b c d e f g h / 128 % 2 ≡ h
digit_7 a b c d e f g h p q r s t u v w = omega arith

-- eight truth values as a number
eight_of : (f : ℕ → Bool) → sum_by (λ j. if f j then 2 ^ j else 0) (range_with_len 0 8)
    ≡ eight (digit (f 0)) (digit (f 1)) (digit (f 2)) (digit (f 3)) (digit (f 4)) (digit (f 5)) (digit (f 6)) (digit (f 7))
eight_of f =
    omega (arith, weighed (f 0) 1, weighed (f 1) 2, weighed (f 2) 4, weighed (f 3) 8, weighed (f 4) 16, weighed (f 5) 32, weighed (f 6) 64, weighed (f 7) 128)

-- the digit at a place
digit_at : (f : ℕ → Bool) (j : ℕ) → j < 8 → eight (digit (f 0)) (digit (f 1)) (digit (f 2)) (digit (f 3)) (digit (f 4)) (digit (f 5)) (digit (f 6)) (digit (f 7)) / 2 ^ j % 2 ≡ digit (f j)
digit_at f zero below = digit_0 (digit (f 0)) (digit (f 1)) (digit (f 2)) (digit (f 3)) (digit (f 4)) (digit (f 5)) (digit (f 6)) (digit (f 7)) (small (f 0)) (small (f 1)) (small (f 2)) (small (f 3)) (small (f 4)) (small (f 5)) (small (f 6)) (small (f 7))
digit_at f (suc zero) below = digit_1 (digit (f 0)) (digit (f 1)) (digit (f 2)) (digit (f 3)) (digit (f 4)) (digit (f 5)) (digit (f 6)) (digit (f 7)) (small (f 0)) (small (f 1)) (small (f 2)) (small (f 3)) (small (f 4)) (small (f 5)) (small (f 6)) (small (f 7))
digit_at f (suc (suc zero)) below = digit_2 (digit (f 0)) (digit (f 1)) (digit (f 2)) (digit (f 3)) (digit (f 4)) (digit (f 5)) (digit (f 6)) (digit (f 7)) (small (f 0)) (small (f 1)) (small (f 2)) (small (f 3)) (small (f 4)) (small (f 5)) (small (f 6)) (small (f 7))
digit_at f (suc (suc (suc zero))) below = digit_3 (digit (f 0)) (digit (f 1)) (digit (f 2)) (digit (f 3)) (digit (f 4)) (digit (f 5)) (digit (f 6)) (digit (f 7)) (small (f 0)) (small (f 1)) (small (f 2)) (small (f 3)) (small (f 4)) (small (f 5)) (small (f 6)) (small (f 7))
digit_at f (suc (suc (suc (suc zero)))) below = digit_4 (digit (f 0)) (digit (f 1)) (digit (f 2)) (digit (f 3)) (digit (f 4)) (digit (f 5)) (digit (f 6)) (digit (f 7)) (small (f 0)) (small (f 1)) (small (f 2)) (small (f 3)) (small (f 4)) (small (f 5)) (small (f 6)) (small (f 7))
digit_at f (suc (suc (suc (suc (suc zero))))) below = digit_5 (digit (f 0)) (digit (f 1)) (digit (f 2)) (digit (f 3)) (digit (f 4)) (digit (f 5)) (digit (f 6)) (digit (f 7)) (small (f 0)) (small (f 1)) (small (f 2)) (small (f 3)) (small (f 4)) (small (f 5)) (small (f 6)) (small (f 7))
digit_at f (suc (suc (suc (suc (suc (suc zero)))))) below = digit_6 (digit (f 0)) (digit (f 1)) (digit (f 2)) (digit (f 3)) (digit (f 4)) (digit (f 5)) (digit (f 6)) (digit (f 7)) (small (f 0)) (small (f 1)) (small (f 2)) (small (f 3)) (small (f 4)) (small (f 5)) (small (f 6)) (small (f 7))
digit_at f (suc (suc (suc (suc (suc (suc (suc zero))))))) below = digit_7 (digit (f 0)) (digit (f 1)) (digit (f 2)) (digit (f 3)) (digit (f 4)) (digit (f 5)) (digit (f 6)) (digit (f 7)) (small (f 0)) (small (f 1)) (small (f 2)) (small (f 3)) (small (f 4)) (small (f 5)) (small (f 6)) (small (f 7))
digit_at f (suc (suc (suc (suc (suc (suc (suc (suc j)))))))) below = absurd (omega arith)

-- the bit at a place of the bytes
bit_back : (bits : List Bool) (k : ℕ) → k < length bits → bit_of (packed bits) k ≡ get_or bits k false
unfolding packed
bit_back bits k below =
    let within : k / 8 < (length bits + 7) / 8 = omega arith in
    let low : k % 8 < 8 = omega arith in
    let byte = get_or-map-range_with_len (λ i. byte_of_bits bits (8 * i)) 0 ((length bits + 7) / 8) (k / 8) (k / 8) 0 within (zero-add (k / 8)) in
    let here = λ (j : ℕ). get_or bits (8 * (k / 8) + j) false in
    let place : 8 * (k / 8) + k % 8 ≡ k = omega arith in
    ap (λ n. n / 2 ^ (k % 8) % 2 == 1) (byte ∙ eight_of here)
    ∙ ap (λ n. n == 1) (digit_at here (k % 8) low)
    ∙ is_one (here (k % 8))
    ∙ ap (λ n. get_or bits n false) place

-- all bits
pub bits_back : (bits : List Bool) → bits_of (length bits) (packed bits) ≡ bits
bits_back bits = sym (fill_by_all (bit_of (packed bits)) bits (length bits) false refl (λ k below. sym (bit_back bits k below)))

pub length-packed : (bits : List Bool) → length (packed bits) ≡ (length bits + 7) / 8
unfolding packed
length-packed bits = length-map-range_with_len (λ i. byte_of_bits bits (8 * i)) 0 ((length bits + 7) / 8)
