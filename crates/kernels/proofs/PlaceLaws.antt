-- The places of the true values of a column.
use Rattle.std.proofs.Common.{◌≡◌, ◌∙◌, ℕ, zero, suc, ◌+◌, ◌<◌, ◌≤◌, List, [], ◌∷◌, ◌++◌, Bool, true, false, length, take, set, get_or, cond, nat_eq, Option, Some, None, unwrap_or, refl, sym, ap, ap₂, arith}
use Rattle.std.specs.List.{filter, range_with_len}
use Rattle.std.specs.Int.{bit_at}
use Rattle.std.proofs.lemmas.Bool.{le-leb}
use Rattle.std.proofs.lemmas.List.{map-id, get_or-map, take_more_set, take-set, length-set, append-nil}
use Rattle.std.proofs.lemmas.List.FromFn.{filter_of_map_range_with_len_more, get_or-map-range_with_len}
use Rattle.std.proofs.lemmas.Nat.Bits.{bit_at-lt}
use Rattle.sub_types.specs.Bits.{bit_of, bits_of}
use Rattle.sub_types.specs.Slots.{slots}
use Rattle.sub_types.specs.Nullable.{bool_value}
use Rattle.plan_denote.specs.Computed.{is_true}
use Rattle.kernels.specs.Rising.{rises_from, rises}

-- the places so far, among as many slots as the column has
pub record Finds (test : ℕ → Bool) (rows : List ℕ) (len count i : ℕ) : Type 0 where
  pub long : length rows ≡ len
  pub fewer : count ≤ i
  pub found : take count rows ≡ filter test (range_with_len 0 i)

pub Finds-none : (test : ℕ → Bool) (rows : List ℕ) (len : ℕ) → length rows ≡ len → Finds test rows len 0 0
Finds-none test rows len long = record { long = long; fewer = omega arith; found = refl }

filter-more : (test : ℕ → Bool) (i : ℕ) → filter test (range_with_len 0 (i + 1)) ≡ filter test (range_with_len 0 i) ++ cond (test i) (i ∷ []) []
filter-more test i =
    ap (filter test) (sym (map-id (range_with_len 0 (i + 1))))
    ∙ filter_of_map_range_with_len_more test (λ x. x) 0 i i (omega arith)
    ∙ ap (λ xs. filter test xs ++ cond (test i) (i ∷ []) []) (map-id (range_with_len 0 i))

pub Finds-more : (test : ℕ → Bool) (rows : List ℕ) (len count i bit : ℕ) → Finds test rows len count i → i < len → bit ≡ cond (test i) 1 0 → Finds test (set rows count i) len (count + bit) (i + 1)
Finds-more test rows len count i bit f below is = record { long = length-set rows count i ∙ f.long; fewer = fewer (test i) is; found = found (test i) refl is }
  where
    fewer : (b : Bool) → bit ≡ cond b 1 0 → count + bit ≤ i + 1
    fewer true e = omega (arith, f.fewer)
    fewer false e = omega (arith, f.fewer)

    found : (b : Bool) → test i ≡ b → bit ≡ cond (test i) 1 0 → take (count + bit) (set rows count i) ≡ filter test (range_with_len 0 (i + 1))
    found true holds e =
        let one : bit ≡ 1 = rw holds at e in
        rw (filter-more test i, holds, one) (take_more_set rows count i (omega (arith, f.fewer, f.long)) ∙ ap (λ xs. xs ++ i ∷ []) f.found)
    found false fails e =
        let none : bit ≡ 0 = rw fails at e in
        let same : count + bit ≡ count = omega arith in
        rw (filter-more test i, fails, same) (take-set rows count i ∙ f.found ∙ sym (append-nil (filter test (range_with_len 0 i))))

filter-same : (p q : ℕ → Bool) (a n : ℕ) → ((i : ℕ) → a ≤ i → i < a + n → p i ≡ q i) → filter p (range_with_len a n) ≡ filter q (range_with_len a n)
filter-same p q a zero same = refl
filter-same p q a (suc n) same = ap₂ (λ b xs. cond b (a ∷ xs) xs) (same a (omega arith) (omega arith)) (filter-same p q (a + 1) n (λ i low high. same i (omega arith) (omega arith)))

truth_of_slot : (value : Option Bool) → unwrap_or value false ≡ is_true (bool_value value)
truth_of_slot (Some b) = refl
truth_of_slot None = refl

-- a bit of the values says whether the value is true
bit_is_truth : (n : ℕ) (bytes : List ℕ) (a : List (Option Bool)) (i : ℕ) → bits_of n bytes ≡ slots false a → n ≡ length a → i < n → bit_of bytes i ≡ is_true (bool_value (get_or a i None))
bit_is_truth n bytes a i view long below =
    sym (get_or-map-range_with_len (bit_of bytes) 0 n i i false below (omega arith))
    ∙ ap (λ bits. get_or bits i false) view
    ∙ get_or-map (λ value. unwrap_or value false) a i None false (omega arith)
    ∙ truth_of_slot (get_or a i None)

pub true_places : (n : ℕ) (bytes : List ℕ) (a : List (Option Bool)) → bits_of n bytes ≡ slots false a → n ≡ length a → filter (bit_of bytes) (range_with_len 0 n) ≡ filter (λ i. is_true (bool_value (get_or a i None))) (range_with_len 0 (length a))
true_places n bytes a view long =
    filter-same (bit_of bytes) (λ i. is_true (bool_value (get_or a i None))) 0 n (λ i low high. bit_is_truth n bytes a i view long (omega arith))
    ∙ ap (λ m. filter (λ i. is_true (bool_value (get_or a i None))) (range_with_len 0 m)) long

-- the places that pass a test rise
rises_step : (b : Bool) (low a : ℕ) (rest : List ℕ) → low ≤ a → rises_from (a + 1) rest ≡ true → rises_from low rest ≡ true → rises_from low (cond b (a ∷ rest) rest) ≡ true
rises_step true low a rest below above same = rw (le-leb low a below) above
rises_step false low a rest below above same = same

rises_on : (test : ℕ → Bool) (low a n : ℕ) → low ≤ a → rises_from low (filter test (range_with_len a n)) ≡ true
rises_on test low a zero below = refl
rises_on test low a (suc n) below = rises_step (test a) low a (filter test (range_with_len (a + 1) n)) below (rises_on test (a + 1) (a + 1) n (omega arith)) (rises_on test low (a + 1) n (omega arith))

pub rises-filter : (test : ℕ → Bool) (n : ℕ) → rises (filter test (range_with_len 0 n)) ≡ true
rises-filter test n = rises_on test 0 0 n (omega arith)

-- a bit, as a number
pub bit_number : (byte k : ℕ) → bit_at byte k ≡ cond (nat_eq (bit_at byte k) 1) 1 0
bit_number byte k = go (bit_at byte k) (bit_at-lt byte k)
  where
    go : (x : ℕ) → x < 2 → x ≡ cond (nat_eq x 1) 1 0
    go zero below = refl
    go (suc zero) below = refl
    go (suc (suc x)) below = absurd (omega arith)
