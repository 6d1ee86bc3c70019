-- Comparisons lane by lane, and the bits that they set.
use Rattle.std.proofs.Common.{◌≡◌, ◌≢◌, ◌+ℤ◌, ◌-ℤ◌, ◌*ℤ◌, unsigned_abs, ◌∙◌, ℕ, ℤ, ◌-◌, ◌<◌, ◌<ℤ◌, ◌^◌, ◌%◌, List, [], ◌∷◌, Bool, true, false, length, map, get_or, cond, eqb, refl, sym, ap, ap₂, arith, FitsSigned, to_z, of_z, w8, Fits, pos, take, subst}
use mir.Syntax.{Width}
use Rattle.std.specs.Int.{int_rem_euclid, int_wrap, int_wrapping_add, int_wrapping_sub, int_wrapping_mul, w128}
use mir.Val.{hbits, bits}
use lib.Lanes.{Each1, zip2, mask_l, top}
use lib.Signed.{lt_z}
use Rattle.std.specs.Ordering.{is_lt, is_eq, int_cmp}
use Rattle.std.specs.declared.cmp.Ordering.{Ordering}
use Rattle.std.specs.declared.cmp.Ordering.TheVariants.{Less, Equal, Greater}
use Rattle.std.specs.Cmp.{int_ranks}
use Rattle.std.specs.Ordering.{MatchOrdering}
use Rattle.std.proofs.lemmas.Bool.{ne_eqb, eq-eqb}
use Rattle.std.proofs.lemmas.Int.{to_z-of_z, ints, wrapping_add_is, wrapping_sub_is, wrapping_mul_is}
use Rattle.std.proofs.lemmas.Simd.{mask_l-mod, mask_l-lt, length-zip2, Each1-from_get_or, tops_compared}
use Rattle.std.proofs.lemmas.List.{take_all}

-- a test of numbers, as one of their bits in two's complement
lanes : (w : Width) (bit_test : ℕ → ℕ → Bool) (test : ℤ → ℤ → Bool) → ((x y : ℤ) → FitsSigned w x → FitsSigned w y → bit_test (of_z w x) (of_z w y) ≡ test x y) → (xs ys : List ℤ) → Each1 (FitsSigned w) xs → Each1 (FitsSigned w) ys → zip2 bit_test (map (of_z w) xs) (map (of_z w) ys) ≡ zip2 test xs ys
lanes w bit_test test same [] ys fx fy = refl
lanes w bit_test test same (x ∷ xs) [] fx fy = refl
lanes w bit_test test same (x ∷ xs) (y ∷ ys) fx fy = ap₂ (λ (b : Bool) (bs : List Bool). b ∷ bs) (same x y fx.0 fy.0) (lanes w bit_test test same xs ys fx.1 fy.1)

first_of : (a b : Bool) → is_lt (cond a Less (cond b Greater Equal)) ≡ a
first_of true b = refl
first_of false true = refl
first_of false false = refl

pub less : (w : Width) (x y : ℤ) → FitsSigned w x → FitsSigned w y → lt_z (to_z w (of_z w x)) (to_z w (of_z w y)) ≡ is_lt (int_cmp x y)
less w x y fx fy = ap₂ lt_z (to_z-of_z w x fx) (to_z-of_z w y fy) ∙ sym (first_of (lt_z x y) (lt_z y x))

apart : (w : Width) (x y : ℤ) → FitsSigned w x → FitsSigned w y → x ≢ y → of_z w x ≢ of_z w y
apart w x y fx fy ne e = ne (sym (to_z-of_z w x fx) ∙ ap (to_z w) e ∙ to_z-of_z w y fy)

equal_by : (w : Width) (x y : ℤ) → FitsSigned w x → FitsSigned w y → (r : Ordering) → MatchOrdering r (x <ℤ y) (x ≡ y) (y <ℤ x) → eqb (of_z w x) (of_z w y) ≡ is_eq r
equal_by w x y fx fy Less m = ne_eqb (of_z w x) (of_z w y) (apart w x y fx fy (λ e. absurd (omega (arith, ints))))
equal_by w x y fx fy Equal m = eq-eqb (of_z w x) (of_z w y) (ap (of_z w) m)
equal_by w x y fx fy Greater m = ne_eqb (of_z w x) (of_z w y) (apart w x y fx fy (λ e. absurd (omega (arith, ints))))

pub equal : (w : Width) (x y : ℤ) → FitsSigned w x → FitsSigned w y → eqb (of_z w x) (of_z w y) ≡ is_eq (int_cmp x y)
equal w x y fx fy = equal_by w x y fx fy (int_cmp x y) (int_ranks x y)

-- the mask of eight tests
module _ (w : Width) (bit_test : ℕ → ℕ → Bool) (test : ℤ → ℤ → Bool) (same : (x y : ℤ) → FitsSigned w x → FitsSigned w y → bit_test (of_z w x) (of_z w y) ≡ test x y)
    (xs ys : List ℤ) (long : length xs ≡ 8) (long' : length ys ≡ 8)
    (fits : (i : ℕ) → i < length xs → FitsSigned w (get_or xs i (pos 0))) (fits' : (i : ℕ) → i < length ys → FitsSigned w (get_or ys i (pos 0))) where
  tests : map (top (hbits w)) (zip2 (λ a b. cond (bit_test a b) (2 ^ bits w - 1) 0) (map (of_z w) (take 8 xs)) (map (of_z w) (take 8 ys))) ≡ zip2 test xs ys
  tests =
      rw (take_all 8 xs (omega arith), take_all 8 ys (omega arith))
      (tops_compared w bit_test (map (of_z w) xs) (map (of_z w) ys)
      ∙ lanes w bit_test test same xs ys (Each1-from_get_or (FitsSigned w) xs (pos 0) fits) (Each1-from_get_or (FitsSigned w) ys (pos 0) fits'))

  pub mask : mask_l (map (top (hbits w)) (zip2 (λ a b. cond (bit_test a b) (2 ^ bits w - 1) 0) (map (of_z w) (take 8 xs)) (map (of_z w) (take 8 ys)))) % 2 ^ 64 ≡ mask_l (zip2 test xs ys)
  mask = ap (λ tests. mask_l tests % 2 ^ 64) tests ∙ mask_l-mod (zip2 test xs ys) 64 (let l = length-zip2 test xs ys (omega arith) in omega arith)

  pub byte : Fits w8 (mask_l (map (top (hbits w)) (zip2 (λ a b. cond (bit_test a b) (2 ^ bits w - 1) 0) (map (of_z w) (take 8 xs)) (map (of_z w) (take 8 ys)))) % 2 ^ 64)
  byte = record { fits = rw mask (subst (λ k. mask_l (zip2 test xs ys) < 2 ^ k) (length-zip2 test xs ys (omega arith) ∙ long) (mask_l-lt (zip2 test xs ys))) }

-- what is left of a number in the bits of a type, as the code takes it from a remainder
pub left_in : (w : Width) (n q r : ℤ) → FitsSigned w128 n → FitsSigned w128 q → FitsSigned w r → q ≡ int_rem_euclid (to_z w128 (of_z w128 n)) (pos (2 ^ bits w)) → r ≡ to_z w (unsigned_abs (to_z w128 (of_z w128 q))) → to_z w (of_z w r) ≡ int_wrap w n
unfolding int_wrap
left_in w n q r fn fq fr e k =
    to_z-of_z w r fr
    ∙ k
    ∙ ap (λ z. to_z w (unsigned_abs z)) (to_z-of_z w128 q fq ∙ e ∙ ap (λ z. int_rem_euclid z (pos (2 ^ bits w))) (to_z-of_z w128 n fn))

pub left_of_sum : (w : Width) (x y r : ℤ) → FitsSigned w x → FitsSigned w y → r ≡ int_wrapping_add w (to_z w (of_z w x)) (to_z w (of_z w y)) → r ≡ int_wrap w (x +ℤ y)
left_of_sum w x y r fx fy is = is ∙ ap₂ (int_wrapping_add w) (to_z-of_z w x fx) (to_z-of_z w y fy) ∙ wrapping_add_is w x y fx fy

pub left_of_difference : (w : Width) (x y r : ℤ) → FitsSigned w x → FitsSigned w y → r ≡ int_wrapping_sub w (to_z w (of_z w x)) (to_z w (of_z w y)) → r ≡ int_wrap w (x -ℤ y)
left_of_difference w x y r fx fy is = is ∙ ap₂ (int_wrapping_sub w) (to_z-of_z w x fx) (to_z-of_z w y fy) ∙ wrapping_sub_is w x y fx fy

pub left_of_product : (w : Width) (x y r : ℤ) → FitsSigned w x → FitsSigned w y → r ≡ int_wrapping_mul w (to_z w (of_z w x)) (to_z w (of_z w y)) → r ≡ int_wrap w (x *ℤ y)
left_of_product w x y r fx fy is = is ∙ ap₂ (int_wrapping_mul w) (to_z-of_z w x fx) (to_z-of_z w y fy) ∙ wrapping_mul_is w x y fx fy
