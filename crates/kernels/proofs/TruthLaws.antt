-- Three-valued logic on the bits of bytes.
use Rattle.std.proofs.Common.{◌≡◌, ◌∙◌, ℕ, zero, suc, ◌+◌, ◌-◌, ◌*◌, ◌/◌, ◌%◌, ◌<◌, ◌≤◌, List, [], ◌∷◌, Bool, true, false, not, ◌&&◌, ◌||◌, length, map, get_or, set, nat_eq, min, max, bit_and, bit_or, bit_xor, cond, Option, Some, None, is_some, Result, Ok, Err, IfOk, inl, inr, refl, sym, ap, ap₂, subst, arith}
use Rattle.std.specs.Int.{bit_at, w8}
use Rattle.std.specs.List.{range_with_len}
use Rattle.std.proofs.lemmas.Nat.Bits.{bit_at-lt, bit_at_and, bit_at_or, bit_at_xor, bit_at_not}
use Rattle.std.proofs.lemmas.Bool.{cases_lt}
use Rattle.std.proofs.lemmas.List.{length-map, length-set, get_or-set_same, get_or-set_other}
use Rattle.std.proofs.lemmas.List.FromFn.{length-map-range_with_len, get_or-map-range_with_len, fill_by_all}
use Rattle.std.proofs.lemmas.Simd.{zip2-map}
use lib.Lanes.{zip2}
use Rattle.sub_types.specs.Bits.{bit_of, bits_of, IsPacked}
use Rattle.sub_types.specs.Optional.{optional}
use Rattle.sub_types.specs.Slots.{slots, optional-slots, length-slots}
use Rattle.sub_types.specs.Nullable.{bool_value}
use Rattle.plan_denote.specs.Logic.{three_valued, xor_of, not_of}
use Rattle.plan_denote.specs.Computed.{Computed}
use Rattle.kernels.specs.declared.logic.Connective.{Connective}
use Rattle.kernels.specs.declared.logic.Connective.TheVariants.{And, Or, Xor, Not}
use Rattle.kernels.specs.Truths.{is_set, truth_at, both, either, differ, opposite, connected, value_eight, valid_eight, AreMade}

-- ---- bits of one byte

bit-min : (x y : ℕ) → x < 2 → y < 2 → nat_eq (min x y) 1 ≡ (nat_eq x 1 && nat_eq y 1)
bit-min zero zero lx ly = refl
bit-min zero (suc zero) lx ly = refl
bit-min zero (suc (suc y)) lx ly = absurd (omega arith)
bit-min (suc zero) zero lx ly = refl
bit-min (suc zero) (suc zero) lx ly = refl
bit-min (suc zero) (suc (suc y)) lx ly = absurd (omega arith)
bit-min (suc (suc x)) y lx ly = absurd (omega arith)

bit-max : (x y : ℕ) → x < 2 → y < 2 → nat_eq (max x y) 1 ≡ (nat_eq x 1 || nat_eq y 1)
bit-max zero zero lx ly = refl
bit-max zero (suc zero) lx ly = refl
bit-max zero (suc (suc y)) lx ly = absurd (omega arith)
bit-max (suc zero) zero lx ly = refl
bit-max (suc zero) (suc zero) lx ly = refl
bit-max (suc zero) (suc (suc y)) lx ly = absurd (omega arith)
bit-max (suc (suc x)) y lx ly = absurd (omega arith)

abbrev unlike : Bool → Bool → Bool
unlike true b = not b
unlike false b = b

bit-sum : (x y : ℕ) → x < 2 → y < 2 → nat_eq ((x + y) % 2) 1 ≡ unlike (nat_eq x 1) (nat_eq y 1)
bit-sum zero zero lx ly = refl
bit-sum zero (suc zero) lx ly = refl
bit-sum zero (suc (suc y)) lx ly = absurd (omega arith)
bit-sum (suc zero) zero lx ly = refl
bit-sum (suc zero) (suc zero) lx ly = refl
bit-sum (suc zero) (suc (suc y)) lx ly = absurd (omega arith)
bit-sum (suc (suc x)) y lx ly = absurd (omega arith)

bit-other : (x : ℕ) → x < 2 → nat_eq (1 - x) 1 ≡ not (nat_eq x 1)
bit-other zero lx = refl
bit-other (suc zero) lx = refl
bit-other (suc (suc x)) lx = absurd (omega arith)

set-and : (x y k : ℕ) → is_set (bit_and x y) k ≡ (is_set x k && is_set y k)
set-and x y k = ap (λ b. nat_eq b 1) (bit_at_and x y k) ∙ bit-min (bit_at x k) (bit_at y k) (bit_at-lt x k) (bit_at-lt y k)

set-or : (x y k : ℕ) → is_set (bit_or x y) k ≡ (is_set x k || is_set y k)
set-or x y k = ap (λ b. nat_eq b 1) (bit_at_or x y k) ∙ bit-max (bit_at x k) (bit_at y k) (bit_at-lt x k) (bit_at-lt y k)

set-xor : (x y k : ℕ) → is_set (bit_xor x y) k ≡ unlike (is_set x k) (is_set y k)
set-xor x y k = ap (λ b. nat_eq b 1) (bit_at_xor x y k) ∙ bit-sum (bit_at x k) (bit_at y k) (bit_at-lt x k) (bit_at-lt y k)

set-not : (x k : ℕ) → x < 256 → k < 8 → is_set (255 - x) k ≡ not (is_set x k)
set-not x k small below = ap (λ b. nat_eq b 1) (bit_at_not w8 x k small below) ∙ bit-other (bit_at x k) (bit_at-lt x k)

abbrev truth : Bool → Bool → Option Bool
truth valid value = cond valid (Some value) None

both-bits : (a va b vb : Bool) → truth (((va && vb) || (va && not a)) || (vb && not b)) (a && b) ≡ both (truth va a) (truth vb b)
both-bits false false false false = refl
both-bits false false false true = refl
both-bits false false true false = refl
both-bits false false true true = refl
both-bits false true false false = refl
both-bits false true false true = refl
both-bits false true true false = refl
both-bits false true true true = refl
both-bits true false false false = refl
both-bits true false false true = refl
both-bits true false true false = refl
both-bits true false true true = refl
both-bits true true false false = refl
both-bits true true false true = refl
both-bits true true true false = refl
both-bits true true true true = refl

either-bits : (a va b vb : Bool) → truth (((va && vb) || (va && a)) || (vb && b)) ((a && va) || (b && vb)) ≡ either (truth va a) (truth vb b)
either-bits false false false false = refl
either-bits false false false true = refl
either-bits false false true false = refl
either-bits false false true true = refl
either-bits false true false false = refl
either-bits false true false true = refl
either-bits false true true false = refl
either-bits false true true true = refl
either-bits true false false false = refl
either-bits true false false true = refl
either-bits true false true false = refl
either-bits true false true true = refl
either-bits true true false false = refl
either-bits true true false true = refl
either-bits true true true false = refl
either-bits true true true true = refl

differ-bits : (a va b vb : Bool) → truth (va && vb) (unlike a b) ≡ differ (truth va a) (truth vb b)
differ-bits false false false false = refl
differ-bits false false false true = refl
differ-bits false false true false = refl
differ-bits false false true true = refl
differ-bits false true false false = refl
differ-bits false true false true = refl
differ-bits false true true false = refl
differ-bits false true true true = refl
differ-bits true false false false = refl
differ-bits true false false true = refl
differ-bits true false true false = refl
differ-bits true false true true = refl
differ-bits true true false false = refl
differ-bits true true false true = refl
differ-bits true true true false = refl
differ-bits true true true true = refl

opposite-bits : (a va : Bool) → truth va (not a) ≡ opposite (truth va a)
opposite-bits false false = refl
opposite-bits false true = refl
opposite-bits true false = refl
opposite-bits true true = refl

eight-both : (a va b vb k : ℕ) → a < 256 → b < 256 → k < 8 → truth_at (bit_and a b) (bit_or (bit_or (bit_and va vb) (bit_and va (255 - a))) (bit_and vb (255 - b))) k ≡ both (truth_at a va k) (truth_at b vb k)
eight-both a va b vb k la lb lt =
    let valid = set-or (bit_or (bit_and va vb) (bit_and va (255 - a))) (bit_and vb (255 - b)) k
    ∙ ap₂ ◌||◌ (set-or (bit_and va vb) (bit_and va (255 - a)) k ∙ ap₂ ◌||◌ (set-and va vb k) (set-and va (255 - a) k ∙ ap (λ c. is_set va k && c) (set-not a k la lt)))
    (set-and vb (255 - b) k ∙ ap (λ c. is_set vb k && c) (set-not b k lb lt)) in
    ap₂ truth valid (set-and a b k) ∙ both-bits (is_set a k) (is_set va k) (is_set b k) (is_set vb k)

eight-either : (a va b vb k : ℕ) → truth_at (bit_or (bit_and a va) (bit_and b vb)) (bit_or (bit_or (bit_and va vb) (bit_and va a)) (bit_and vb b)) k ≡ either (truth_at a va k) (truth_at b vb k)
eight-either a va b vb k =
    let valid = set-or (bit_or (bit_and va vb) (bit_and va a)) (bit_and vb b) k ∙ ap₂ ◌||◌ (set-or (bit_and va vb) (bit_and va a) k ∙ ap₂ ◌||◌ (set-and va vb k) (set-and va a k)) (set-and vb b k) in
    let value = set-or (bit_and a va) (bit_and b vb) k ∙ ap₂ ◌||◌ (set-and a va k) (set-and b vb k) in
    ap₂ truth valid value ∙ either-bits (is_set a k) (is_set va k) (is_set b k) (is_set vb k)

eight-differ : (a va b vb k : ℕ) → truth_at (bit_xor a b) (bit_and va vb) k ≡ differ (truth_at a va k) (truth_at b vb k)
eight-differ a va b vb k = ap₂ truth (set-and va vb k) (set-xor a b k) ∙ differ-bits (is_set a k) (is_set va k) (is_set b k) (is_set vb k)

eight-opposite : (a va k : ℕ) → a < 256 → k < 8 → truth_at (255 - a) va k ≡ opposite (truth_at a va k)
eight-opposite a va k la lt = ap (truth (is_set va k)) (set-not a k la lt) ∙ opposite-bits (is_set a k) (is_set va k)

-- ---- bytes of a column

pub length-packed : (n : ℕ) (bytes : List ℕ) → length (bits_of n bytes) ≡ n
length-packed n bytes = length-map-range_with_len (bit_of bytes) 0 n

-- as many bytes as a column has are enough
pub packed : (n : ℕ) (given made : List ℕ) (a : List (Option Bool)) (bits : List Bool) → bits ≡ slots false a → n ≡ length a → IsPacked (length bits) given → length made ≡ length given → IsPacked n made
packed n given made a bits is long p same =
    let l : length bits ≡ n = ap length is ∙ length-slots false a ∙ sym long in
    record { enough = omega (arith, p.enough); no_more = omega (arith, p.no_more) }

-- the bytes of a column's values and of its validity
pub bits_of_list : (n : ℕ) (bytes : List ℕ) (bits seen : List Bool) → bits_of (length bits) bytes ≡ bits → bits ≡ seen → length seen ≡ n → bits_of n bytes ≡ seen
bits_of_list n bytes bits seen view is long = ap (λ m. bits_of m bytes) (sym (ap length is ∙ long)) ∙ view ∙ is

pub bits_of_values : (n : ℕ) (bytes : List ℕ) (bits : List Bool) (a : List (Option Bool)) → bits_of (length bits) bytes ≡ bits → bits ≡ slots false a → n ≡ length a → bits_of n bytes ≡ slots false a
bits_of_values n bytes bits a view is long = bits_of_list n bytes bits (slots false a) view is (length-slots false a ∙ sym long)

pub bits_of_valid : (n : ℕ) (bytes : List ℕ) (bits : List Bool) (a : List (Option Bool)) → bits_of (length bits) bytes ≡ bits → bits ≡ map is_some a → n ≡ length a → bits_of n bytes ≡ map is_some a
bits_of_valid n bytes bits a view is long = bits_of_list n bytes bits (map is_some a) view is (length-map a is_some ∙ sym long)

-- the bytes so far hold what a function makes of those of two columns
pub record Reaches (f : Option Bool → Option Bool → Option Bool) (av ak bv bk v k : List ℕ) (i : ℕ) : Type 0 where
  pub long_values : length v ≡ i
  pub long_valid : length k ≡ i
  pub made : (j : ℕ) → j < i → (bit : ℕ) → bit < 8 → truth_at (get_or v j 0) (get_or k j 0) bit ≡ f (truth_at (get_or av j 0) (get_or ak j 0) bit) (truth_at (get_or bv j 0) (get_or bk j 0) bit)

-- the bytes that a loop makes, so far and at its end
module _ (f : ℕ → ℕ → ℕ → ℕ → ℕ) (a va b vb : List ℕ) where
  pub AreMade-none : (bytes : List ℕ) → length bytes ≡ length a → AreMade f a va b vb bytes 0
  AreMade-none bytes long = record { long = long; made = λ k lt. absurd (omega arith) }

  pub AreMade-more : (bytes : List ℕ) (i x : ℕ) → AreMade f a va b vb bytes i → i < length a → x ≡ f (get_or a i 0) (get_or va i 0) (get_or b i 0) (get_or vb i 0) → AreMade f a va b vb (set bytes i x) (i + 1)
  AreMade-more bytes i x so_far below is =
      record {
        long = length-set bytes i x ∙ so_far.long;
        made = λ k lt. elim (cases_lt k i) [
          | inl before ↦
              let apart : k ≡ i → ⊥ = λ e. absurd (omega arith) in
              get_or-set_other bytes i k x 0 apart ∙ so_far.made k before
          | inr after ↦
              let e : i ≡ k = omega arith in
              subst (λ j. get_or (set bytes i x) j 0 ≡ f (get_or a j 0) (get_or va j 0) (get_or b j 0) (get_or vb j 0)) e
              (get_or-set_same bytes i x 0 (omega (arith, so_far.long)) ∙ is)
        ];
      }

  pub AreMade-all : (bytes : List ℕ) (i : ℕ) → AreMade f a va b vb bytes i → length a ≤ i → AreMade f a va b vb bytes (length a)
  AreMade-all bytes i so_far end = record { long = so_far.long; made = λ k lt. so_far.made k (omega arith) }

-- columns of the same length have as many bytes
pub same_bytes : (m n : ℕ) (xs ys : List ℕ) → IsPacked m xs → IsPacked n ys → m ≡ n → length xs ≡ length ys
same_bytes m n xs ys p q e = omega (arith, p.enough, p.no_more, q.enough, q.no_more)

eight : (connective : Connective) (a va b vb k : ℕ) → a < 256 → b < 256 → k < 8 → truth_at (value_eight connective a va b vb) (valid_eight connective a va b vb) k ≡ connected connective (truth_at a va k) (truth_at b vb k)
eight And a va b vb k la lb lt = eight-both a va b vb k la lb lt
eight Or a va b vb k la lb lt = eight-either a va b vb k
eight Xor a va b vb k la lb lt = eight-differ a va b vb k
eight Not a va b vb k la lb lt = eight-opposite a va k la lt

-- both lists of bytes together
pub reached : (connective : Connective) (av ak bv bk v k : List ℕ) → ((j : ℕ) → get_or av j 0 < 256) → ((j : ℕ) → get_or bv j 0 < 256)
    → AreMade (value_eight connective) av ak bv bk v (length av) → AreMade (valid_eight connective) av ak bv bk k (length av) → Reaches (connected connective) av ak bv bk v k (length av)
reached connective av ak bv bk v k la lb values valid =
    record {
      long_values = values.long;
      long_valid = valid.long;
      made = λ j lt bit below.
          ap₂ (λ v k. truth_at v k bit) (values.made j lt) (valid.made j lt)
          ∙ eight connective (get_or av j 0) (get_or ak j 0) (get_or bv j 0) (get_or bk j 0) bit (la j) (lb j) below;
    }

optional-cons : (b x : Bool) (xs bs : List Bool) (rest : List (Option Bool)) → optional xs bs ≡ rest → optional (x ∷ xs) (b ∷ bs) ≡ truth b x ∷ rest
optional-cons true x xs bs rest e = ap (λ r. Some x ∷ r) e
optional-cons false x xs bs rest e = ap (λ r. None ∷ r) e

optional-map : (f g : ℕ → Bool) (is : List ℕ) → optional (map f is) (map g is) ≡ map (λ i. truth (g i) (f i)) is
optional-map f g [] = refl
optional-map f g (i ∷ is) = optional-cons (g i) (f i) (map f is) (map g is) (map (λ i. truth (g i) (f i)) is) (optional-map f g is)

place : List ℕ → List ℕ → ℕ → Option Bool
place v k i = truth (bit_of k i) (bit_of v i)

columns : (n : ℕ) (v k : List ℕ) → optional (bits_of n v) (bits_of n k) ≡ map (place v k) (range_with_len 0 n)
unfolding place
columns n v k = optional-map (bit_of v) (bit_of k) (range_with_len 0 n)

column_of : (n : ℕ) (v k : List ℕ) (a : List (Option Bool)) → bits_of n v ≡ slots false a → bits_of n k ≡ map is_some a → a ≡ map (place v k) (range_with_len 0 n)
column_of n v k a ev ek = sym (optional-slots false a) ∙ ap₂ optional (sym ev) (sym ek) ∙ columns n v k

pub connected_columns : (f : Option Bool → Option Bool → Option Bool) (n count : ℕ) (av ak bv bk v k : List ℕ) (a b : List (Option Bool))
    → bits_of n av ≡ slots false a → bits_of n ak ≡ map is_some a → bits_of n bv ≡ slots false b → bits_of n bk ≡ map is_some b
    → n ≤ 8 * count → Reaches f av ak bv bk v k count → optional (bits_of n v) (bits_of n k) ≡ zip2 f a b
unfolding place
connected_columns f n count av ak bv bk v k a b eav eak ebv ebk enough r =
    columns n v k
    ∙ fill_by_all (λ i. f (place av ak i) (place bv bk i)) (map (place v k) (range_with_len 0 n)) n None (length-map-range_with_len (place v k) 0 n) at
    ∙ sym (zip2-map f (place av ak) (place bv bk) (range_with_len 0 n))
    ∙ ap₂ (zip2 f) (sym (column_of n av ak a eav eak)) (sym (column_of n bv bk b ebv ebk))
  where
    at : (i : ℕ) → i < n → get_or (map (place v k) (range_with_len 0 n)) i None ≡ f (place av ak i) (place bv bk i)
    at i lt = get_or-map-range_with_len (place v k) 0 n i i None lt (omega arith) ∙ r.made (i / 8) (omega arith) (i % 8) (omega arith)

-- ---- the definitions of the plan

map-zip2 : {X U Z W : Type 0} (g : Z → W) (f : X → X → Z) (h : X → U) (f' : U → U → W) → ((x y : X) → g (f x y) ≡ f' (h x) (h y)) → (xs ys : List X) → map g (zip2 f xs ys) ≡ zip2 f' (map h xs) (map h ys)
map-zip2 g f h f' same [] ys = refl
map-zip2 g f h f' same (x ∷ xs) [] = refl
map-zip2 g f h f' same (x ∷ xs) (y ∷ ys) = ap₂ (λ w ws. w ∷ ws) (same x y) (map-zip2 g f h f' same xs ys)

both-value : (a b : Option Bool) → bool_value (both a b) ≡ three_valued false (bool_value a) (bool_value b)
both-value None None = refl
both-value None (Some false) = refl
both-value None (Some true) = refl
both-value (Some false) None = refl
both-value (Some false) (Some false) = refl
both-value (Some false) (Some true) = refl
both-value (Some true) None = refl
both-value (Some true) (Some false) = refl
both-value (Some true) (Some true) = refl

either-value : (a b : Option Bool) → bool_value (either a b) ≡ three_valued true (bool_value a) (bool_value b)
either-value None None = refl
either-value None (Some false) = refl
either-value None (Some true) = refl
either-value (Some false) None = refl
either-value (Some false) (Some false) = refl
either-value (Some false) (Some true) = refl
either-value (Some true) None = refl
either-value (Some true) (Some false) = refl
either-value (Some true) (Some true) = refl

abbrev pub result : Option Bool → Computed
result truth = Ok (bool_value truth)

differ-value : (a b : Option Bool) → result (differ a b) ≡ xor_of (bool_value a) (bool_value b)
differ-value None None = refl
differ-value None (Some false) = refl
differ-value None (Some true) = refl
differ-value (Some false) None = refl
differ-value (Some false) (Some false) = refl
differ-value (Some false) (Some true) = refl
differ-value (Some true) None = refl
differ-value (Some true) (Some false) = refl
differ-value (Some true) (Some true) = refl

pub and-values : (a b : List (Option Bool)) → map bool_value (zip2 both a b) ≡ zip2 (three_valued false) (map bool_value a) (map bool_value b)
and-values = map-zip2 bool_value both bool_value (three_valued false) both-value

pub or-values : (a b : List (Option Bool)) → map bool_value (zip2 either a b) ≡ zip2 (three_valued true) (map bool_value a) (map bool_value b)
or-values = map-zip2 bool_value either bool_value (three_valued true) either-value

pub xor-values : (a b : List (Option Bool)) → map result (zip2 differ a b) ≡ zip2 xor_of (map bool_value a) (map bool_value b)
xor-values = map-zip2 result differ bool_value xor_of differ-value

pub not-values : (a : List (Option Bool)) → map result (zip2 (λ a b. opposite a) a a) ≡ map not_of (map bool_value a)
not-values [] = refl
not-values (Some b ∷ a) = ap (λ rest. not_of (bool_value (Some b)) ∷ rest) (not-values a)
not-values (None ∷ a) = ap (λ rest. not_of (bool_value None) ∷ rest) (not-values a)

-- what a function of a result is
pub known : {X Y E : Type 0} (g : X → Y) (x : X) (y : Y) (r : Result X E) → IfOk r (λ found. found ≡ x) → g x ≡ y → IfOk r (λ found. g found ≡ y)
known g x y (Ok found) is e = ap g is ∙ e
known g x y (Err fault) is e = tt
