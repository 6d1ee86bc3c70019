-- Sums of numbers, one after another.
use Rattle.std.proofs.Common.{◌≡◌, ◌∙◌, ℕ, zero, suc, ◌+◌, ◌*◌, ◌^◌, ◌<◌, ◌≤◌, ℤ, pos, neg_ℤ, ◌+ℤ◌, ◌≤ℤ◌, ◌<ℤ◌, List, [], ◌∷◌, length, get_or, take, Option, Some, None, refl, sym, ap, ap₂, arith, add-one, FitsSigned, to_z, of_z, unsigned_abs}
use Rattle.std.specs.Int.{w128}
use Rattle.std.proofs.lemmas.Int.{ints, to_z-of_z, fits_signed_from_abs}
use Rattle.std.proofs.lemmas.List.{take_all}
use Rattle.sub_types.specs.Slots.{slots}
use Rattle.plan_denote.specs.Tally.{total_of}
use Rattle.kernels.specs.Numbers.{ints as int_values, decs as dec_values}
use Rattle.kernels.specs.Total.{total, number_of}

added : (a b c : ℤ) → a +ℤ (b +ℤ c) ≡ (a +ℤ b) +ℤ c
added a b c = omega (arith, ints)

end_added : (a : ℤ) → a +ℤ pos 0 ≡ pos 0 +ℤ a
end_added a = omega (arith, ints)

total-suc : {T : Type 0} (number : T → ℤ) (xs : List T) (i : ℕ) (d : T) → i < length xs → total number (take (suc i) xs) ≡ total number (take i xs) +ℤ number (get_or xs i d)
total-suc number [] i d below = absurd (omega arith)
total-suc number (x ∷ xs) zero d below = end_added (number x)
total-suc number (x ∷ xs) (suc i) d below = ap (λ rest. number x +ℤ rest) (total-suc number xs i d (omega arith)) ∙ added (number x) (total number (take i xs)) (number (get_or xs i d))

-- one number more
pub total-more : {T : Type 0} (number : T → ℤ) (xs : List T) (i : ℕ) (x : T) → i < length xs → x ≡ get_or xs i x → total number (take (i + 1) xs) ≡ total number (take i xs) +ℤ number x
total-more number xs i x below is = rw add-one (total-suc number xs i x below ∙ ap (λ y. total number (take i xs) +ℤ number y) (sym is))

pub total-all : {T : Type 0} (number : T → ℤ) (xs : List T) (i : ℕ) → length xs ≤ i → total number (take i xs) ≡ total number xs
total-all number xs i enough = ap (total number) (take_all i xs enough)

-- a null adds nothing

pub total-ints : {T : Type 0} (number : T → ℤ) (filler : T) → number filler ≡ pos 0 → (column : List (Option T)) → total number (slots filler column) ≡ total_of (int_values number column)
total-ints number filler none [] = refl
total-ints number filler none (Some x ∷ column) = ap (λ rest. number x +ℤ rest) (total-ints number filler none column)
total-ints number filler none (None ∷ column) = ap₂ ◌+ℤ◌ none (total-ints number filler none column)

pub total-decs : {T : Type 0} (number : T → ℤ) (filler : T) → number filler ≡ pos 0 → (column : List (Option T)) → total number (slots filler column) ≡ total_of (dec_values number column)
total-decs number filler none [] = refl
total-decs number filler none (Some x ∷ column) = ap (λ rest. number x +ℤ rest) (total-decs number filler none column)
total-decs number filler none (None ∷ column) = ap₂ ◌+ℤ◌ none (total-decs number filler none column)

-- ---- numbers split at 10 to the 19

-- what the parts so far make, and how large they are
pub record Splits (whole : ℤ) (i : ℕ) (quotient remainder : ℤ) : Type 0 where
  pub makes : number_of quotient remainder ≡ whole
  pub quotient_least : neg_ℤ (pos (i * 2 ^ 64)) ≤ℤ quotient
  pub quotient_greatest : quotient ≤ℤ pos (i * 2 ^ 64)
  pub remainder_least : pos 0 ≤ℤ remainder
  pub remainder_greatest : remainder ≤ℤ pos (i * 10 ^ 19)

pub Splits-none : Splits (pos 0) 0 (pos 0) (pos 0)
Splits-none = record { makes = refl; quotient_least = omega (arith, ints); quotient_greatest = omega (arith, ints); remainder_least = omega (arith, ints); remainder_greatest = omega (arith, ints) }

small : (z : ℤ) → neg_ℤ (pos (2 ^ 100)) ≤ℤ z → z ≤ℤ pos (2 ^ 100) → FitsSigned w128 z
small z least most = fits_signed_from_abs w128 z (omega (arith, ints))

abbrev pub held : ℤ → ℤ
held z = to_z w128 (of_z w128 z)

-- a remainder is held as it is
pub held_remainder : (r : ℤ) → pos 0 ≤ℤ r → r <ℤ pos (10 ^ 19) → held r ≡ r
held_remainder r least below = to_z-of_z w128 r (small r (omega (arith, ints)) (omega (arith, ints)))

module _ (whole n : ℤ) (i : ℕ) (q r q' r' : ℤ) (few : i < 2 ^ 31) (s : Splits whole i q r) (makes : number_of q' r' ≡ n)
    (q_least : neg_ℤ (pos (2 ^ 64)) ≤ℤ q') (q_most : q' ≤ℤ pos (2 ^ 64)) (r_least : pos 0 ≤ℤ r') (r_below : r' <ℤ pos (10 ^ 19)) where
  held_q : held q' ≡ q'
  held_q = to_z-of_z w128 q' (small q' (omega (arith, ints)) (omega (arith, ints)))

  held_r : held r' ≡ r'
  held_r = to_z-of_z w128 r' (small r' (omega (arith, ints)) (omega (arith, ints)))

  pub quotient_fits : FitsSigned w128 (q +ℤ held q')
  quotient_fits = rw held_q (small (q +ℤ q') (omega (arith, ints, s.quotient_least)) (omega (arith, ints, s.quotient_greatest)))

  pub remainder_fits : FitsSigned w128 (r +ℤ held r')
  remainder_fits = rw held_r (small (r +ℤ r') (omega (arith, ints, s.remainder_least)) (omega (arith, ints, s.remainder_greatest)))

  quotient_is : held (q +ℤ held q') ≡ q +ℤ q'
  quotient_is = to_z-of_z w128 (q +ℤ held q') quotient_fits ∙ ap (λ z. q +ℤ z) held_q

  remainder_is : held (r +ℤ held r') ≡ r +ℤ r'
  remainder_is = to_z-of_z w128 (r +ℤ held r') remainder_fits ∙ ap (λ z. r +ℤ z) held_r

  sum_makes : number_of (q +ℤ q') (r +ℤ r') ≡ whole +ℤ n
  sum_makes = let old = s.makes in omega (arith, ints)

  pub Splits-more : Splits (whole +ℤ n) (i + 1) (held (q +ℤ held q')) (held (r +ℤ held r'))
  Splits-more = rw (quotient_is, remainder_is) record {
    makes = sum_makes;
    quotient_least = omega (arith, ints, s.quotient_least);
    quotient_greatest = omega (arith, ints, s.quotient_greatest);
    remainder_least = omega (arith, ints, s.remainder_least);
    remainder_greatest = omega (arith, ints, s.remainder_greatest);
  }

-- the remainder carried over
module _ (whole : ℤ) (i : ℕ) (q r q' r' : ℤ) (few : i ≤ 2 ^ 31) (s : Splits whole i q r) (is : number_of q' r' ≡ r)
    (q_least : neg_ℤ (pos (2 ^ 64)) ≤ℤ q') (q_most : q' ≤ℤ pos (2 ^ 64)) (r_least : pos 0 ≤ℤ r') (r_below : r' <ℤ pos (10 ^ 19)) where
  held_q' : held q' ≡ q'
  held_q' = to_z-of_z w128 q' (small q' (omega (arith, ints)) (omega (arith, ints)))

  pub carried_fits : FitsSigned w128 (q +ℤ held q')
  carried_fits = rw held_q' (small (q +ℤ q') (omega (arith, ints, s.quotient_least)) (omega (arith, ints, s.quotient_greatest)))

  carried_is : number_of (q +ℤ q') r' ≡ whole
  carried_is = let old = s.makes in omega (arith, ints)

  pub carried : number_of (held (q +ℤ held q')) (held r') ≡ whole
  carried = ap₂ number_of (to_z-of_z w128 (q +ℤ held q') carried_fits ∙ ap (λ z. q +ℤ z) held_q') (held_remainder r' r_least r_below) ∙ carried_is

-- ---- numbers of at most 64 bits

-- the sum so far, and how large it is
pub record IsShort (whole : ℤ) (i : ℕ) (sum : ℤ) : Type 0 where
  pub is : sum ≡ whole
  pub small : unsigned_abs sum ≤ i * 2 ^ 63

pub IsShort-none : IsShort (pos 0) 0 (pos 0)
IsShort-none = record { is = refl; small = omega arith }

module _ (whole n : ℤ) (i : ℕ) (sum x : ℤ) (few : i < 2 ^ 31) (s : IsShort whole i sum) (is : x ≡ n) (narrow : unsigned_abs n ≤ 2 ^ 63) where
  abs_x : unsigned_abs x ≤ 2 ^ 63
  abs_x = rw is narrow

  held_x : held x ≡ x
  held_x = to_z-of_z w128 x (fits_signed_from_abs w128 x (omega (arith, abs_x)))

  abs_sum : unsigned_abs (sum +ℤ x) ≤ (i + 1) * 2 ^ 63
  abs_sum = let small = s.small in let abs = abs_x in omega (arith, ints)

  sum_fits : FitsSigned w128 (sum +ℤ x)
  sum_fits = fits_signed_from_abs w128 (sum +ℤ x) (omega (arith, abs_sum))

  pub short_fits : FitsSigned w128 (sum +ℤ held x)
  short_fits = rw held_x sum_fits

  pub short-more : IsShort (whole +ℤ n) (i + 1) (held (sum +ℤ held x))
  short-more = rw (held_x, to_z-of_z w128 (sum +ℤ x) sum_fits) record { is = ap₂ ◌+ℤ◌ s.is is; small = abs_sum }
