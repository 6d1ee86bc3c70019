-- Tests put into the bits of a number, the first into the lowest.
use Rattle.std.proofs.Common.{◌≡◌, ◌∙◌, ℕ, zero, suc, ◌+◌, ◌*◌, ◌%◌, ◌^◌, ◌<◌, ◌≤◌, List, [], ◌∷◌, ◌++◌, Bool, true, false, length, get_or, take, cond, refl, sym, ap, subst, arith, lit<, add-one, Fits, w8}
use Rattle.std.proofs.Math.Nat.{pow-le-pow_right, pow-succ'}
use Rattle.std.proofs.lemmas.List.{length-take}
use Rattle.std.proofs.lemmas.Simd.{length-zip2, mask_l-lt}
use lib.Lanes.{zip2, mask_l}

doubled : (ms : List Bool) → mask_l (ms ++ true ∷ []) ≡ mask_l ms + 2 ^ length ms → 1 + 2 * mask_l (ms ++ true ∷ []) ≡ (1 + 2 * mask_l ms) + 2 ^ suc (length ms)
doubled ms rest = let e = pow-succ' 2 (length ms) in omega arith

doubled' : (ms : List Bool) → mask_l (ms ++ true ∷ []) ≡ mask_l ms + 2 ^ length ms → 0 + 2 * mask_l (ms ++ true ∷ []) ≡ (0 + 2 * mask_l ms) + 2 ^ suc (length ms)
doubled' ms rest = let e = pow-succ' 2 (length ms) in omega arith

-- one more test in the next bit
pub mask-more : (ms : List Bool) (b : Bool) → mask_l (ms ++ b ∷ []) ≡ mask_l ms + cond b (2 ^ length ms) 0
mask-more [] true = refl
mask-more [] false = refl
mask-more (true ∷ ms) true = doubled ms (mask-more ms true)
mask-more (true ∷ ms) false = let rest = mask-more ms false in omega arith
mask-more (false ∷ ms) true = doubled' ms (mask-more ms true)
mask-more (false ∷ ms) false = let rest = mask-more ms false in omega arith

zip2-suc : {X Y Z : Type 0} (f : X → Y → Z) (xs : List X) (ys : List Y) (i : ℕ) (d : X) (e : Y) → i < length xs → i < length ys → zip2 f (take (suc i) xs) (take (suc i) ys) ≡ zip2 f (take i xs) (take i ys) ++ f (get_or xs i d) (get_or ys i e) ∷ []
zip2-suc f [] ys i d e a b = absurd (omega arith)
zip2-suc f (x ∷ xs) [] i d e a b = absurd (omega arith)
zip2-suc f (x ∷ xs) (y ∷ ys) zero d e a b = refl
zip2-suc f (x ∷ xs) (y ∷ ys) (suc i) d e a b = ap (λ rest. f x y ∷ rest) (zip2-suc f xs ys i d e (omega arith) (omega arith))

-- two lists a place on
pub zip2-more : {X Y Z : Type 0} (f : X → Y → Z) (xs : List X) (ys : List Y) (i : ℕ) (d : X) (e : Y) → i < length xs → i < length ys → zip2 f (take (i + 1) xs) (take (i + 1) ys) ≡ zip2 f (take i xs) (take i ys) ++ f (get_or xs i d) (get_or ys i e) ∷ []
zip2-more f xs ys i d e a b = rw add-one (zip2-suc f xs ys i d e a b)

module _ {X Y : Type 0} (test : X → Y → Bool) (xs : List X) (ys : List Y) (i mask : ℕ) (d : X) (e : Y) (few : i < 8) (left : i < length xs) (right : i < length ys) (so_far : mask ≡ mask_l (zip2 test (take i xs) (take i ys))) where
  few_tests : length (zip2 test (take i xs) (take i ys)) ≡ i
  few_tests = length-zip2 test (take i xs) (take i ys) (omega (arith, length-take i xs, length-take i ys)) ∙ (let l = length-take i xs in omega arith)

  grown : mask_l (zip2 test (take (i + 1) xs) (take (i + 1) ys)) ≡ mask + cond (test (get_or xs i d) (get_or ys i e)) (2 ^ i) 0
  grown =
      ap mask_l (zip2-more test xs ys i d e left right)
      ∙ mask-more (zip2 test (take i xs) (take i ys)) (test (get_or xs i d) (get_or ys i e))
      ∙ rw (few_tests, so_far) refl

  small : 2 ^ i ≤ 128
  small = let le : i ≤ 7 = omega arith in pow-le-pow_right (lit< tt) le

  -- the bit of one more test, where it holds, and where it doesn't
  pub mask-true : test (get_or xs i d) (get_or ys i e) ≡ true → mask + 1 * 2 ^ i % 256 ≡ mask_l (zip2 test (take (i + 1) xs) (take (i + 1) ys))
  mask-true holds = let one : 1 * 2 ^ i % 256 ≡ 2 ^ i = omega (arith, small) in rw one (sym (grown ∙ rw holds refl))

  pub mask-false : test (get_or xs i d) (get_or ys i e) ≡ false → mask ≡ mask_l (zip2 test (take (i + 1) xs) (take (i + 1) ys))
  mask-false fails = let none : mask + 0 ≡ mask = omega arith in sym (grown ∙ rw fails none)

  pub mask-fits : Fits w8 (mask + 1 * 2 ^ i % 256)
  mask-fits =
      let below : mask < 2 ^ i = rw so_far (subst (λ n. mask_l (zip2 test (take i xs) (take i ys)) < 2 ^ n) few_tests (mask_l-lt (zip2 test (take i xs) (take i ys)))) in
      record { fits = omega (arith, small, below) }
