-- Indices in a buffer, and the values that they name.
use Rattle.std.proofs.Common.{rules, tests, ◌≡◌, ◌∙◌, ℕ, zero, suc, ◌+◌, ◌*◌, ◌<◌, ◌≤◌, ◌==◌, ℤ, pos, negsuc, slice_get, nat_lt, ◌⊎◌, inl, inr, List, [], ◌∷◌, ◌++◌, length, map, take, drop, get_or, Bool, true, false, Option, Some, None, nat_le, IsTrue, refl, sym, ap, arith, zero-add}
use Rattle.std.specs.Int.{w8, w16, w32, w64}
use Rattle.std.specs.List.{range_with_len}
use Rattle.std.proofs.lemmas.Bool.{false≢true}
use Rattle.std.proofs.Math.Nat.{mul-le-mul_left}
use Rattle.std.proofs.lemmas.List.FromFn.{length-map-range_with_len, get_or-map-range_with_len}
use Rattle.byteorder.specs.Endian.{little_number}
use Rattle.sub_types.specs.OptionalLaws.{length-optional, get_or-optional_valid, get_or-optional_null}
use Rattle.arrow_meta.specs.Known.{is_index_size}
use Rattle.sub_types.specs.OptionSteps.{◌>>=◌, when, all_of}
use Rattle.std.specs.Option.{option_map}
use Rattle.std.proofs.lemmas.Option.{slice_get_past}
use Rattle.arrow_meta.specs.Values.{unsigned_in, indices_in, named_value, encoded_in}
use Rattle.arrow_decode.specs.Indices.{index_number, optional_indices, place_among}
use Rattle.arrow_decode.proofs.ListLaws.{all_of-step, all_of-missing}
use Rattle.arrow_decode.proofs.NumberLaws.{map-map, signed_in-short, signed_in-long}

-- a number is below another or not
below_or_not : (a b : ℕ) → (a < b) ⊎ (b ≤ a)
below_or_not a b = grind arith

-- where there is no value, and where there is one
nothing_past : {X : Type 0} (xs : List X) (i : ℕ) (d : X) → length xs ≤ i → get_or xs i d ≡ d
nothing_past [] i d past = refl
nothing_past (x ∷ xs) zero d past = absurd (omega arith)
nothing_past (x ∷ xs) (suc i) d past = nothing_past xs i d (omega arith)

slice_get_there : (xs : List (Option (List ℕ))) (i : ℕ) → i < length xs → slice_get xs i ≡ Some (get_or xs i None)
slice_get_there [] i below = absurd (omega arith)
slice_get_there (x ∷ xs) zero below = refl
slice_get_there (x ∷ xs) (suc i) below = slice_get_there xs i (omega arith)

-- no size is above 8
no_size : (n : ℕ) → 9 ≤ n → is_index_size n ≡ false
no_size n above =
    let one : (n == 1) ≡ false = search (rules, tests) in
    let two : (n == 2) ≡ false = search (rules, tests) in
    let four : (n == 4) ≡ false = search (rules, tests) in
    let eight : (n == 8) ≡ false = search (rules, tests) in
    rw (one, two, four, eight) refl

-- what holds at each size of an index
by_size : (P : ℕ → Type 0) (size : ℕ) → IsTrue (is_index_size size) → P 1 → P 2 → P 4 → P 8 → P size
by_size P zero is one two four eight = absurd (cc)
by_size P (suc zero) is one two four eight = one
by_size P (suc (suc zero)) is one two four eight = two
by_size P (suc (suc (suc zero))) is one two four eight = absurd (cc)
by_size P (suc (suc (suc (suc zero)))) is one two four eight = four
by_size P (suc (suc (suc (suc (suc zero))))) is one two four eight = absurd (cc)
by_size P (suc (suc (suc (suc (suc (suc zero)))))) is one two four eight = absurd (cc)
by_size P (suc (suc (suc (suc (suc (suc (suc zero))))))) is one two four eight = absurd (cc)
by_size P (suc (suc (suc (suc (suc (suc (suc (suc zero)))))))) is one two four eight = eight
by_size P (suc (suc (suc (suc (suc (suc (suc (suc (suc n))))))))) is one two four eight =
    let none = no_size (suc (suc (suc (suc (suc (suc (suc (suc (suc n))))))))) (omega arith) in
    absurd (false≢true (sym none ∙ is))

-- a buffer that has too few indices
indices_in-short : (size count : ℕ) (signed : Bool) (buffer : List ℕ) → IsTrue (is_index_size size) → length buffer < size * count → indices_in size signed count buffer ≡ None
unfolding unsigned_in
indices_in-short size count false buffer is short =
    let test : nat_le (size * count) (length buffer) ≡ false = search (rules, tests) in rw test refl
indices_in-short size count true buffer is short =
    by_size (λ n. length buffer < n * count → indices_in n true count buffer ≡ None) size is
    (signed_in-short w8 1 count buffer) (signed_in-short w16 2 count buffer) (signed_in-short w32 4 count buffer) (signed_in-short w64 8 count buffer) short

-- a buffer that has enough
indices_in-long : (size count : ℕ) (signed : Bool) (buffer : List ℕ) → IsTrue (is_index_size size) → size * count ≤ length buffer
    → indices_in size signed count buffer ≡ Some (map (index_number size signed buffer) (range_with_len 0 count))
unfolding unsigned_in
indices_in-long size count false buffer is long =
    let test : nat_le (size * count) (length buffer) ≡ true = search (rules, tests) in
    rw test (ap (λ xs. Some xs) (map-map pos (λ i. little_number size (drop (size * i) buffer)) (range_with_len 0 count)))
indices_in-long size count true buffer is long =
    by_size (λ n. n * count ≤ length buffer → indices_in n true count buffer ≡ Some (map (index_number n true buffer) (range_with_len 0 count))) size is
    (signed_in-long w8 1 count buffer) (signed_in-long w16 2 count buffer) (signed_in-long w32 4 count buffer) (signed_in-long w64 8 count buffer) long

pub encoded_in-short : (size count : ℕ) (signed : Bool) (valid : List Bool) (dictionary : List (Option (List ℕ))) (buffer : List ℕ) → IsTrue (is_index_size size) → length buffer < size * count
    → encoded_in size signed count valid dictionary buffer ≡ None
unfolding encoded_in
encoded_in-short size count signed valid dictionary buffer is short = rw (indices_in-short size count signed buffer is short) refl

pub encoded_in-long : (size count : ℕ) (signed : Bool) (valid : List Bool) (dictionary : List (Option (List ℕ))) (buffer : List ℕ) → IsTrue (is_index_size size) → size * count ≤ length buffer
    → encoded_in size signed count valid dictionary buffer ≡ all_of (map (named_value dictionary) (optional_indices size signed count valid buffer))
unfolding encoded_in
encoded_in-long size count signed valid dictionary buffer is long = rw (indices_in-long size count signed buffer is long) refl

pub length-optional_indices : (size count : ℕ) (signed : Bool) (valid : List Bool) (buffer : List ℕ) → length valid ≡ count → length (optional_indices size signed count valid buffer) ≡ count
length-optional_indices size count signed valid buffer same =
    let numbers = length-map-range_with_len (index_number size signed buffer) 0 count in
    length-optional (map (index_number size signed buffer) (range_with_len 0 count)) valid (numbers ∙ sym same) ∙ numbers

-- the place that the index at a place names
place_by : (values size count : ℕ) (signed : Bool) (valid : List Bool) (buffer : List ℕ) (i : ℕ) (r : Option ℕ) (b : Bool)
    → length valid ≡ count → i < count → get_or valid i false ≡ b
    → (b ≡ false → r ≡ Some values) → (b ≡ true → r ≡ place_among values (Some (index_number size signed buffer i)))
    → place_among values (get_or (optional_indices size signed count valid buffer) i None) ≡ r
place_by values size count signed valid buffer i r true same below is null there =
    let numbers = map (index_number size signed buffer) (range_with_len 0 count) in
    let long = length-map-range_with_len (index_number size signed buffer) 0 count in
    let here = get_or-optional_valid numbers valid i (pos 0) (long ∙ sym same) is ∙ ap (λ n. Some n) (get_or-map-range_with_len (index_number size signed buffer) 0 count i i (pos 0) below (zero-add i)) in
    ap (place_among values) here ∙ sym (there refl)
place_by values size count signed valid buffer i r false same below is null there =
    ap (place_among values) (get_or-optional_null (map (index_number size signed buffer) (range_with_len 0 count)) valid i is) ∙ sym (null refl)

pub place_of : (values size count : ℕ) (signed : Bool) (valid : List Bool) (buffer : List ℕ) (i : ℕ) (r : Option ℕ)
    → length valid ≡ count → i < count
    → (get_or valid i false ≡ false → r ≡ Some values) → (get_or valid i false ≡ true → r ≡ place_among values (Some (index_number size signed buffer i)))
    → place_among values (get_or (optional_indices size signed count valid buffer) i None) ≡ r
place_of values size count signed valid buffer i r same below null there =
    place_by values size count signed valid buffer i r (get_or valid i false) same below refl null there

-- one that names nothing
pub names_nothing : (values : ℕ) (indices : List (Option ℤ)) (i : ℕ) → i < length indices → place_among values (get_or indices i None) ≡ None → all_of (map (place_among values) indices) ≡ None
names_nothing values indices i below nothing = all_of-missing (place_among values) indices i None below nothing

-- the places so far and one more
pub places_more : (values : ℕ) (indices : List (Option ℤ)) (i : ℕ) (at : List ℕ) (place : ℕ) → i < length indices
    → all_of (map (place_among values) (take i indices)) ≡ Some at → place_among values (get_or indices i None) ≡ Some place
    → all_of (map (place_among values) (take (i + 1) indices)) ≡ Some (at ++ place ∷ [])
places_more values indices i at place below all here = all_of-step (place_among values) indices i None at place below all here

-- a value by its place
named_by_place : (dictionary : List (Option (List ℕ))) (index : Option ℤ) → named_value dictionary index ≡ option_map (λ i. get_or dictionary i None) (place_among (length dictionary) index)
named_by_place dictionary None = ap (λ v. Some v) (sym (nothing_past dictionary (length dictionary) None (omega arith)))
named_by_place dictionary (Some (negsuc n)) = refl
named_by_place dictionary (Some (pos n)) =
    elim (below_or_not n (length dictionary)) as (λ _. slice_get dictionary n ≡ option_map (λ i. get_or dictionary i None) (when (nat_lt n (length dictionary)) (Some n))) [
      | inl below ↦ let test : nat_lt n (length dictionary) ≡ true = search (rules, tests) in rw (slice_get_there dictionary n below, test) refl
      | inr past ↦ let test : nat_lt n (length dictionary) ≡ false = search (rules, tests) in rw (slice_get_past dictionary n past, test) refl
    ]

-- and all of them
pub named_by_places : (dictionary : List (Option (List ℕ))) (indices : List (Option ℤ))
    → all_of (map (named_value dictionary) indices) ≡ option_map (λ at. map (λ i. get_or dictionary i None) at) (all_of (map (place_among (length dictionary)) indices))
named_by_places dictionary [] = refl
named_by_places dictionary (index ∷ indices) =
    rw (named_by_place dictionary index, named_by_places dictionary indices) (joined (place_among (length dictionary) index) (all_of (map (place_among (length dictionary)) indices)))
  where
    joined : (one : Option ℕ) (rest : Option (List ℕ))
        → (option_map (λ i. get_or dictionary i None) one >>= λ y. option_map (λ at. map (λ i. get_or dictionary i None) at) rest >>= λ ys. Some (y ∷ ys))
        ≡ option_map (λ at. map (λ i. get_or dictionary i None) at) (one >>= λ y. rest >>= λ ys. Some (y ∷ ys))
    joined None rest = refl
    joined (Some place) None = refl
    joined (Some place) (Some at) = refl

-- what becomes of indices by what becomes of their places
pub encoded_in-places : (size count values : ℕ) (signed : Bool) (valid : List Bool) (dictionary : List (Option (List ℕ))) (buffer : List ℕ) (found : Option (List ℕ)) → IsTrue (is_index_size size) → size * count ≤ length buffer
    → values ≡ length dictionary → found ≡ all_of (map (place_among values) (optional_indices size signed count valid buffer))
    → encoded_in size signed count valid dictionary buffer ≡ option_map (λ at. map (λ i. get_or dictionary i None) at) found
encoded_in-places size count values signed valid dictionary buffer found is long same found_is =
    let indices = optional_indices size signed count valid buffer in
    encoded_in-long size count signed valid dictionary buffer is long ∙ named_by_places dictionary indices
    ∙ ap (option_map (λ at. map (λ i. get_or dictionary i None) at)) (ap (λ n. all_of (map (place_among n) indices)) (sym same) ∙ sym found_is)

-- there is room for each index
pub room_for_index : (size count i : ℕ) (buffer : List ℕ) → size * count ≤ length buffer → i < count → size * (i + 1) ≤ length buffer
room_for_index size count i buffer long below =
    let most = mul-le-mul_left size (let next : i + 1 ≤ count = omega arith in next) in omega (arith, most)
