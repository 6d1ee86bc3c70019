-- Comparisons of numbers, eight at a time.
use Rattle.std.proofs.Common.{◌≡◌, ◌∙◌, ℕ, zero, suc, ◌+◌, ◌-◌, ◌*◌, ◌/◌, ◌%◌, ◌^◌, ◌<◌, ◌≤◌, ℤ, List, [], ◌∷◌, ◌++◌, Bool, true, false, not, length, map, get_or, take, drop, min, cond, replicate, nat_eq, Option, Some, None, is_some, Ok, inl, inr, refl, sym, ap, ap₂, arith}
use Rattle.std.specs.Int.{bit_at}
use Rattle.std.specs.List.{range_with_len, slice_range}
use Rattle.std.specs.declared.cmp.Ordering.{Ordering}
use Rattle.std.specs.declared.cmp.Ordering.TheVariants.{Less, Equal, Greater}
use Rattle.std.specs.Ordering.{int_cmp, ordering_then, ordering_reverse, is_eq, is_ne, is_lt, is_le, is_gt, is_ge}
use Rattle.std.proofs.lemmas.Cmp.{int_cmp_total}
use Rattle.std.proofs.Math.Nat.{pow-succ'}
use Rattle.std.proofs.lemmas.Bool.{cases_lt}
use Rattle.std.proofs.lemmas.List.{take_all, take-replicate, length-take, length-drop, length-map, take-map, drop-map, replicate-append-replicate}
use Rattle.std.proofs.lemmas.List.FromFn.{fill_by_all, get_or-map-range_with_len, map-range_with_len_more, length-map-range_with_len}
use Rattle.std.proofs.lemmas.Simd.{length-zip2, bit_mask_l, get_or-chunk, zip2_splat}
use lib.Lanes.{zip2, mask_l, chunk}
use Rattle.sub_types.specs.Bits.{bit_of, bits_of, IsPacked}
use Rattle.sub_types.specs.BitSteps.{both}
use Rattle.sub_types.specs.Optional.{optional}
use Rattle.sub_types.specs.Slots.{slots, length-slots}
use Rattle.sub_types.specs.declared.value.Value.TheVariants as values
use Rattle.plan_denote.specs.Computed.{Computed}
use Rattle.plan_denote.specs.Logic as spec
use Rattle.plan_denote.specs.Order.{value_cmp}
use Rattle.kernels.specs.declared.op.CompareOp.{CompareOp}
use Rattle.kernels.specs.declared.op.CompareOp.TheVariants.{Ne, Le, Gt, Ge}
use Rattle.kernels.specs.Numbers.{test_of, holds, compared, int_of, dec_of, ints, decs}
use Rattle.kernels.proofs.TruthLaws.{result}

-- ---- the masks of eight tests

masks-sum : (ms : List Bool) → suc (mask_l (map not ms) + mask_l ms) ≡ 2 ^ length ms
masks-sum [] = refl
masks-sum (true ∷ ms) = let rest = masks-sum ms in let e = pow-succ' 2 (length ms) in omega arith
masks-sum (false ∷ ms) = let rest = masks-sum ms in let e = pow-succ' 2 (length ms) in omega arith

mask-not : (ms : List Bool) → length ms ≡ 8 → 255 - mask_l ms ≡ mask_l (map not ms)
mask-not ms long = let sum : suc (mask_l (map not ms) + mask_l ms) ≡ 256 = masks-sum ms ∙ ap (λ n. 2 ^ n) long in omega arith

module _ {X : Type 0} (f g : X → X → Bool) where
  zip2-not : ((x y : X) → not (f x y) ≡ g x y) → (xs ys : List X) → map not (zip2 f xs ys) ≡ zip2 g xs ys
  zip2-not same [] ys = refl
  zip2-not same (x ∷ xs) [] = refl
  zip2-not same (x ∷ xs) (y ∷ ys) = ap₂ (λ (b : Bool) (bs : List Bool). b ∷ bs) (same x y) (zip2-not same xs ys)

  zip2-turned : ((x y : X) → f y x ≡ g x y) → (xs ys : List X) → zip2 f ys xs ≡ zip2 g xs ys
  zip2-turned same [] [] = refl
  zip2-turned same [] (y ∷ ys) = refl
  zip2-turned same (x ∷ xs) [] = refl
  zip2-turned same (x ∷ xs) (y ∷ ys) = ap₂ (λ (b : Bool) (bs : List Bool). b ∷ bs) (same x y) (zip2-turned same xs ys)

  -- the tests turned round
  pub mask-turned : ((x y : X) → f y x ≡ g x y) → (xs ys : List X) → mask_l (zip2 f ys xs) ≡ mask_l (zip2 g xs ys)
  mask-turned same xs ys = ap mask_l (zip2-turned same xs ys)

  -- the other answers
  pub mask-other : ((x y : X) → not (f x y) ≡ g x y) → (xs ys : List X) → length xs ≡ 8 → length ys ≡ 8 → 255 - mask_l (zip2 f xs ys) ≡ mask_l (zip2 g xs ys)
  mask-other same xs ys long long' = mask-not (zip2 f xs ys) (length-zip2 f xs ys (omega arith) ∙ long) ∙ ap mask_l (zip2-not same xs ys)

  pub mask-other_turned : ((x y : X) → not (f y x) ≡ g x y) → (xs ys : List X) → length xs ≡ 8 → length ys ≡ 8 → 255 - mask_l (zip2 f ys xs) ≡ mask_l (zip2 g xs ys)
  mask-other_turned same xs ys long long' = mask-not (zip2 f ys xs) (length-zip2 f ys xs (omega arith) ∙ long') ∙ ap mask_l (both_ways xs ys)
    where
      both_ways : (xs ys : List X) → map not (zip2 f ys xs) ≡ zip2 g xs ys
      both_ways [] [] = refl
      both_ways [] (y ∷ ys) = refl
      both_ways (x ∷ xs) [] = refl
      both_ways (x ∷ xs) (y ∷ ys) = ap₂ (λ (b : Bool) (bs : List Bool). b ∷ bs) (same x y) (both_ways xs ys)

not_eq : (r : Ordering) → not (is_eq r) ≡ is_ne r
not_eq Less = refl
not_eq Equal = refl
not_eq Greater = refl

not_lt : (r : Ordering) → not (is_lt r) ≡ is_ge r
not_lt Less = refl
not_lt Equal = refl
not_lt Greater = refl

turned_lt : (r : Ordering) → is_lt (ordering_reverse r) ≡ is_gt r
turned_lt Less = refl
turned_lt Equal = refl
turned_lt Greater = refl

not_turned_lt : (r : Ordering) → not (is_lt (ordering_reverse r)) ≡ is_le r
not_turned_lt Less = refl
not_turned_lt Equal = refl
not_turned_lt Greater = refl

module _ {T : Type 0} (number : T → ℤ) where
  pub other_eq : (x y : T) → not (is_eq (int_cmp (number x) (number y))) ≡ holds number Ne x y
  other_eq x y = not_eq (int_cmp (number x) (number y))

  pub other_lt : (x y : T) → not (is_lt (int_cmp (number x) (number y))) ≡ holds number Ge x y
  other_lt x y = not_lt (int_cmp (number x) (number y))

  pub lt_turned : (x y : T) → is_lt (int_cmp (number y) (number x)) ≡ holds number Gt x y
  lt_turned x y = ap is_lt (int_cmp_total.antisymm (number y) (number x)) ∙ turned_lt (int_cmp (number x) (number y))

  pub other_lt_turned : (x y : T) → not (is_lt (int_cmp (number y) (number x))) ≡ holds number Le x y
  other_lt_turned x y = ap (λ r. not (is_lt r)) (int_cmp_total.antisymm (number y) (number x)) ∙ not_turned_lt (int_cmp (number x) (number y))

-- ---- tests packed into bytes

-- the byte of eight tests from a place on
abbrev pub byte_at : List Bool → ℕ → ℕ
byte_at tests i = mask_l (chunk (8 * i) 8 tests)

-- the first so many bytes
abbrev pub bytes_of : List Bool → ℕ → List ℕ
bytes_of tests count = map (byte_at tests) (range_with_len 0 count)

pub bytes_of-more : (tests : List Bool) (i : ℕ) → bytes_of tests (i + 1) ≡ bytes_of tests i ++ byte_at tests i ∷ []
bytes_of-more tests i = map-range_with_len_more (byte_at tests) 0 i i (omega arith)

test_of_bit : (b : Bool) → b ≡ nat_eq (cond b 1 0) 1
test_of_bit true = refl
test_of_bit false = refl

pub bits_of-bytes_of : (tests : List Bool) (n count : ℕ) → length tests ≡ n → n ≤ 8 * count → bits_of n (bytes_of tests count) ≡ tests
bits_of-bytes_of tests n count long enough = sym (fill_by_all (bit_of (bytes_of tests count)) tests n false long at)
  where
    at : (k : ℕ) → k < n → get_or tests k false ≡ bit_of (bytes_of tests count) k
    at k lt =
        let byte : get_or (bytes_of tests count) (k / 8) 0 ≡ byte_at tests (k / 8) = get_or-map-range_with_len (byte_at tests) 0 count (k / 8) (k / 8) 0 (omega arith) (omega arith) in
        let place : 8 * (k / 8) + k % 8 ≡ k = omega arith in
        let test : get_or (chunk (8 * (k / 8)) 8 tests) (k % 8) false ≡ get_or tests k false = get_or-chunk (8 * (k / 8)) 8 tests (k % 8) false (omega arith) ∙ ap (λ i. get_or tests i false) place in
        test_of_bit (get_or tests k false)
        ∙ ap (λ b. nat_eq (cond b 1 0) 1) (sym test)
        ∙ ap (λ bit. nat_eq bit 1) (sym (bit_mask_l (chunk (8 * (k / 8)) 8 tests) (k % 8)))
        ∙ ap (λ byte. nat_eq (bit_at byte (k % 8)) 1) (sym byte)

pub packed_bytes : (tests : List Bool) (n count : ℕ) (bytes : List ℕ) → bytes ≡ bytes_of tests count → n ≤ 8 * count → 8 * count < n + 8 → IsPacked n bytes
packed_bytes tests n count bytes are enough no_more =
    let long : length bytes ≡ count = ap length are ∙ length-map-range_with_len (byte_at tests) 0 count in
    record { enough = omega arith; no_more = omega arith }

take-zip2 : {X Y Z : Type 0} (f : X → Y → Z) (k : ℕ) (xs : List X) (ys : List Y) → take k (zip2 f xs ys) ≡ zip2 f (take k xs) (take k ys)
take-zip2 f zero xs ys = refl
take-zip2 f (suc k) [] ys = refl
take-zip2 f (suc k) (x ∷ xs) [] = refl
take-zip2 f (suc k) (x ∷ xs) (y ∷ ys) = ap (λ rest. f x y ∷ rest) (take-zip2 f k xs ys)

drop-zip2 : {X Y Z : Type 0} (f : X → Y → Z) (k : ℕ) (xs : List X) (ys : List Y) → drop k (zip2 f xs ys) ≡ zip2 f (drop k xs) (drop k ys)
drop-zip2 f zero xs ys = refl
drop-zip2 f (suc k) [] ys = refl
drop-zip2 f (suc k) (x ∷ xs) [] = ends f (drop k xs)
  where
    ends : {X Y Z : Type 0} (f : X → Y → Z) (xs : List X) → [] ≡ zip2 f xs []
    ends f [] = refl
    ends f (x ∷ xs) = refl
drop-zip2 f (suc k) (x ∷ xs) (y ∷ ys) = drop-zip2 f k xs ys

take-most : {X : Type 0} (xs : List X) (m : ℕ) → m ≡ min 8 (length xs) → take m xs ≡ take 8 xs
take-most xs m is = elim (cases_lt (length xs) 8) [
  | inl few ↦ take_all m xs (omega arith) ∙ sym (take_all 8 xs (omega arith))
  | inr many ↦ let e : m ≡ 8 = omega arith in ap (λ n. take n xs) e
]

-- the tests of eight places, the last ones of fewer
pub chunk-slices : {X Y : Type 0} (f : X → Y → Bool) (xs : List X) (ys : List Y) (from to : ℕ) → length xs ≡ length ys → from < length xs → to ≡ min (from + 8) (length xs) → zip2 f (slice_range xs from to) (slice_range ys from to) ≡ chunk from 8 (zip2 f xs ys)
chunk-slices f xs ys from to same within end =
    let long = length-zip2 f xs ys same in
    let rest = length-drop from (zip2 f xs ys) in
    sym (take-zip2 f (to - from) (drop from xs) (drop from ys))
    ∙ ap (take (to - from)) (sym (drop-zip2 f from xs ys))
    ∙ take-most (drop from (zip2 f xs ys)) (to - from) (omega arith)

-- the same against a constant, of which eight stand ready
pub chunk-slices_constant : {X Y : Type 0} (f : X → Y → Bool) (xs : List X) (y : Y) (ys : List Y) (from to : ℕ) → ys ≡ replicate 8 y → from < length xs → to ≡ min (from + 8) (length xs) → zip2 f (slice_range xs from to) (take (to - from) ys) ≡ chunk from 8 (map (λ x. f x y) xs)
chunk-slices_constant f xs y ys from to are within end =
    let cut : take (to - from) ys ≡ replicate (to - from) y = ap (take (to - from)) are ∙ take-replicate (to - from) 8 y (omega arith) in
    let long : length (slice_range xs from to) ≡ to - from = let a = length-take (to - from) (drop from xs) in let b = length-drop from xs in omega arith in
    let rest = length-drop from (map (λ x. f x y) xs) in
    let all = length-map xs (λ x. f x y) in
    ap (zip2 f (slice_range xs from to)) cut
    ∙ zip2_splat f (slice_range xs from to) (to - from) y long
    ∙ sym (take-map (λ x. f x y) (to - from) (drop from xs))
    ∙ ap (take (to - from)) (sym (drop-map (λ x. f x y) from xs))
    ∙ take-most (drop from (map (λ x. f x y) xs)) (to - from) (omega arith)

pub replicate-more : {X : Type 0} (n : ℕ) (x : X) → replicate (n + 1) x ≡ replicate n x ++ x ∷ []
replicate-more n x = sym (replicate-append-replicate n 1 x)

-- ---- columns

module _ {T : Type 0} (number : T → ℤ) (op : CompareOp) (filler : T) where
  pub optional-compared : (a b : List (Option T)) → optional (zip2 (holds number op) (slots filler a) (slots filler b)) (both (map is_some a) (map is_some b)) ≡ zip2 (compared number op) a b
  optional-compared [] b = refl
  optional-compared (Some x ∷ a) [] = refl
  optional-compared (None ∷ a) [] = refl
  optional-compared (Some x ∷ a) (Some y ∷ b) = ap (λ rest. Some (holds number op x y) ∷ rest) (optional-compared a b)
  optional-compared (Some x ∷ a) (None ∷ b) = ap (λ rest. None ∷ rest) (optional-compared a b)
  optional-compared (None ∷ a) (Some y ∷ b) = ap (λ rest. None ∷ rest) (optional-compared a b)
  optional-compared (None ∷ a) (None ∷ b) = ap (λ rest. None ∷ rest) (optional-compared a b)

  pub optional-compared_constant : (constant : T) (a : List (Option T)) → optional (map (λ x. holds number op x constant) (slots filler a)) (map is_some a) ≡ map (λ value. compared number op value (Some constant)) a
  optional-compared_constant constant [] = refl
  optional-compared_constant constant (Some x ∷ a) = ap (λ rest. Some (holds number op x constant) ∷ rest) (optional-compared_constant constant a)
  optional-compared_constant constant (None ∷ a) = ap (λ rest. None ∷ rest) (optional-compared_constant constant a)

pub length-tests : {T : Type 0} (number : T → ℤ) (op : CompareOp) (filler : T) (a b : List (Option T)) → length a ≡ length b → length (zip2 (holds number op) (slots filler a) (slots filler b)) ≡ length a
length-tests number op filler a b same =
    let l = length-slots filler a in
    let l' = length-slots filler b in
    length-zip2 (holds number op) (slots filler a) (slots filler b) (omega arith) ∙ l

length-both : (xs ys : List Bool) → length xs ≡ length ys → length (both xs ys) ≡ length xs
length-both [] ys same = refl
length-both (x ∷ xs) [] same = absurd (omega arith)
length-both (x ∷ xs) (y ∷ ys) same = let rest = length-both xs ys (omega arith) in omega arith

pub length-both_valid : {T : Type 0} (a b : List (Option T)) → length a ≡ length b → length (both (map is_some a) (map is_some b)) ≡ length a
length-both_valid a b same = let l = length-map a is_some in let l' = length-map b is_some in length-both (map is_some a) (map is_some b) (omega arith) ∙ l

-- ---- the definitions of the plan

then_equal : (r : Ordering) → ordering_then r Equal ≡ r
then_equal Less = refl
then_equal Equal = refl
then_equal Greater = refl

int_order : (m n : ℤ) → value_cmp (values.Int m) (values.Int n) ≡ int_cmp m n
int_order m n = then_equal (int_cmp m n)

dec_order : (m n : ℤ) → value_cmp (values.Dec m) (values.Dec n) ≡ int_cmp m n
dec_order m n = then_equal (int_cmp m n)

abbrev truth : Bool → Computed
truth b = Ok (values.Bool b)

module _ {T : Type 0} (number : T → ℤ) (op : CompareOp) where
  pub int_compared : (a b : Option T) → result (compared number op a b) ≡ spec.compared (test_of op) (int_of number a) (int_of number b)
  int_compared (Some x) (Some y) = ap (λ r. truth (test_of op r)) (sym (int_order (number x) (number y)))
  int_compared (Some x) None = refl
  int_compared None (Some y) = refl
  int_compared None None = refl

  pub dec_compared : (a b : Option T) → result (compared number op a b) ≡ spec.compared (test_of op) (dec_of number a) (dec_of number b)
  dec_compared (Some x) (Some y) = ap (λ r. truth (test_of op r)) (sym (dec_order (number x) (number y)))
  dec_compared (Some x) None = refl
  dec_compared None (Some y) = refl
  dec_compared None None = refl

  pub ints_compared : (a b : List (Option T)) → map result (zip2 (compared number op) a b) ≡ zip2 (spec.compared (test_of op)) (ints number a) (ints number b)
  ints_compared [] b = refl
  ints_compared (x ∷ a) [] = refl
  ints_compared (x ∷ a) (y ∷ b) = ap₂ (λ (v : Computed) (vs : List Computed). v ∷ vs) (int_compared x y) (ints_compared a b)

  pub decs_compared : (a b : List (Option T)) → map result (zip2 (compared number op) a b) ≡ zip2 (spec.compared (test_of op)) (decs number a) (decs number b)
  decs_compared [] b = refl
  decs_compared (x ∷ a) [] = refl
  decs_compared (x ∷ a) (y ∷ b) = ap₂ (λ (v : Computed) (vs : List Computed). v ∷ vs) (dec_compared x y) (decs_compared a b)

  pub ints_compared_constant : (constant : T) (a : List (Option T)) → map result (map (λ value. compared number op value (Some constant)) a) ≡ map (λ value. spec.compared (test_of op) value (int_of number (Some constant))) (ints number a)
  ints_compared_constant constant [] = refl
  ints_compared_constant constant (x ∷ a) = ap₂ (λ (v : Computed) (vs : List Computed). v ∷ vs) (int_compared x (Some constant)) (ints_compared_constant constant a)

  pub decs_compared_constant : (constant : T) (a : List (Option T)) → map result (map (λ value. compared number op value (Some constant)) a) ≡ map (λ value. spec.compared (test_of op) value (dec_of number (Some constant))) (decs number a)
  decs_compared_constant constant [] = refl
  decs_compared_constant constant (x ∷ a) = ap₂ (λ (v : Computed) (vs : List Computed). v ∷ vs) (dec_compared x (Some constant)) (decs_compared_constant constant a)
