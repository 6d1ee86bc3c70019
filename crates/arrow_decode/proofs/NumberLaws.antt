-- Numbers in a buffer.
use Rattle.std.proofs.Common.{◌≡◌, ◌∙◌, ℕ, ◌*◌, ◌<◌, ◌≤◌, ℤ, List, [], ◌∷◌, length, map, drop, Option, Some, None, Bool, true, false, nat_le, refl, sym, ap, rules, tests}
use Rattle.std.specs.Int.{Width, w128, cast_signed}
use Rattle.std.specs.List.{range_with_len, list_all}
use Rattle.std.specs.Option.{option_map}
use Rattle.byteorder.specs.Endian.{little_number}
use Rattle.sub_types.specs.Nullable.{int_value, dec_value}
use Rattle.sub_types.specs.Optional.{optional}
use Rattle.sub_types.specs.OptionSteps.{◌>>=◌}
use Rattle.arrow_meta.specs.Values.{signed_in, unsigned_in, has_digits, checked_decimals, decimals_in}

-- a list of a list
pub map-map : {A B C : Type 0} (f : B → C) (g : A → B) (xs : List A) → map f (map g xs) ≡ map (λ x. f (g x)) xs
map-map f g [] = refl
map-map f g (x ∷ xs) = ap (λ ys. f (g x) ∷ ys) (map-map f g xs)

-- the number at a place
abbrev pub signed_number : Width → ℕ → List ℕ → ℕ → ℤ
signed_number width size buffer k = cast_signed width (little_number size (drop (size * k) buffer))

-- a buffer that has too few numbers, and one that has enough
pub signed_in-short : (width : Width) (size count : ℕ) (buffer : List ℕ) → length buffer < size * count → signed_in width size count buffer ≡ None
unfolding unsigned_in
signed_in-short width size count buffer short =
    let test : nat_le (size * count) (length buffer) ≡ false = search (rules, tests) in rw test refl

pub signed_in-long : (width : Width) (size count : ℕ) (buffer : List ℕ) → size * count ≤ length buffer → signed_in width size count buffer ≡ Some (map (signed_number width size buffer) (range_with_len 0 count))
unfolding unsigned_in
signed_in-long width size count buffer long =
    let test : nat_le (size * count) (length buffer) ≡ true = search (rules, tests) in
    let joined = map-map (cast_signed width) (λ i. little_number size (drop (size * i) buffer)) (range_with_len 0 count) in
    rw test (ap (λ xs. Some xs) joined)

-- optional numbers as they are
pub option_map-same : (xs : List (Option ℤ)) → map (λ x. option_map (λ (n : ℤ). n) x) xs ≡ xs
option_map-same [] = refl
option_map-same (Some n ∷ xs) = ap (λ rest. Some n ∷ rest) (option_map-same xs)
option_map-same (None ∷ xs) = ap (λ rest. None ∷ rest) (option_map-same xs)

-- decimals from the numbers in a buffer
abbrev pub optional_numbers : List Bool → Option (List ℤ) → Option (List (Option ℤ))
optional_numbers valid numbers = option_map (λ ns. optional ns valid) numbers

pub decimals_bad : (precision count : ℕ) (valid : List Bool) (buffer : List ℕ) (column : List (Option ℤ)) → optional_numbers valid (signed_in w128 16 count buffer) ≡ Some column
    → list_all (has_digits precision) column ≡ false → decimals_in precision count valid buffer ≡ None
unfolding decimals_in
decimals_bad precision count valid buffer column found bad =
    elim (signed_in w128 16 count buffer) as (λ s. optional_numbers valid s ≡ Some column → (s >>= λ numbers. checked_decimals precision (optional numbers valid)) ≡ None) [
      | Some numbers ↦ λ h. let same : optional numbers valid ≡ column = cc in rw (same, bad) refl
      | None ↦ λ h. absurd (cc)
    ] found

pub decimals_good : (precision count : ℕ) (valid : List Bool) (buffer : List ℕ) (column : List (Option ℤ)) → optional_numbers valid (signed_in w128 16 count buffer) ≡ Some column
    → list_all (has_digits precision) column ≡ true → decimals_in precision count valid buffer ≡ Some (map dec_value column)
unfolding decimals_in
decimals_good precision count valid buffer column found good =
    elim (signed_in w128 16 count buffer) as (λ s. optional_numbers valid s ≡ Some column → (s >>= λ numbers. checked_decimals precision (optional numbers valid)) ≡ Some (map dec_value column)) [
      | Some numbers ↦ λ h. let same : optional numbers valid ≡ column = cc in rw (same, good) refl
      | None ↦ λ h. absurd (cc)
    ] found

-- whole numbers as values
pub ints_in-numbers : (found : Option (List (Option ℤ))) (numbers : Option (List ℤ)) (valid : List Bool)
    → option_map (λ column. map (λ x. option_map (λ (n : ℤ). n) x) column) found ≡ option_map (λ ns. optional ns valid) numbers
    → option_map (λ column. map int_value column) found ≡ option_map (λ ns. map int_value (optional ns valid)) numbers
ints_in-numbers found numbers valid h =
    let same : option_map (λ column. map (λ x. option_map (λ (n : ℤ). n) x) column) found ≡ found =
    elim found as (λ (f : Option (List (Option ℤ))). option_map (λ column. map (λ x. option_map (λ (n : ℤ). n) x) column) f ≡ f) [ Some column ↦ ap (λ xs. Some xs) (option_map-same column) | None ↦ refl ] in
    let joined : option_map (λ column. map int_value column) (option_map (λ ns. optional ns valid) numbers) ≡ option_map (λ ns. map int_value (optional ns valid)) numbers =
    elim numbers as (λ (ns : Option (List ℤ)). option_map (λ column. map int_value column) (option_map (λ xs. optional xs valid) ns) ≡ option_map (λ xs. map int_value (optional xs valid)) ns) [ Some ns ↦ refl | None ↦ refl ] in
    ap (option_map (λ column. map int_value column)) (sym same ∙ h) ∙ joined
