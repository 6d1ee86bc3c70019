-- The values of a column of fixed width from its numbers.
use Rattle.std.proofs.Common.{◌≡◌, ◌∙◌, ℕ, suc, ◌^◌, ◌<◌, ◌≤◌, ℤ, pos, List, [], ◌∷◌, ◌++◌, true, Some, length, get_or, map, refl, sym, ap, subst, arith, lit<, FitsSigned, unsigned_abs, nat_lt}
use Rattle.std.specs.List.{flat_map, list_all, All}
use Rattle.std.specs.Option.{option_map}
use Rattle.std.specs.Int.{Width, w128, cast_signed, cast_unsigned}
use Rattle.std.proofs.lemmas.List.{length-map, get_or-map}
use Rattle.std.proofs.lemmas.List.Elements.{All-head, All-tail, All-weaker}
use Rattle.std.proofs.lemmas.Int.{to_z-of_z, fits_signed_from_abs}
use Rattle.std.proofs.Math.Facts.{Fits-of_z, Fits-lt-pow}
use Rattle.std.proofs.Math.Nat.{pow-le-pow_right}
use Rattle.std.proofs.lemmas.Nat.{pow_pos}
use Rattle.std.proofs.lemmas.Bool.{le-leb}
use Rattle.arrow_meta.proofs.BackLaws.{flat_map-map}
use Rattle.byteorder.specs.Endian.{little_bytes}
use Rattle.sub_types.specs.Nullable.{int_value, dec_value}
use Rattle.sub_types.specs.Optional.{optional}
use Rattle.sub_types.specs.declared.kind.Kind.TheVariants as kinds
use Rattle.sub_types.specs.declared.value.Value.{Value}
use Rattle.sub_types.specs.declared.value.Value.TheVariants as values
use Rattle.arrow_meta.specs.Buffers.{is_valid, slot_bytes}
use Rattle.arrow_meta.specs.Values.{unsigned_in, signed_in, ints_in, has_digits, decimals_in}
use Rattle.arrow_law.proofs.Slots.{unsigned_back}

-- null, or a whole number of a width
abbrev pub IsInt : Width → Value → Type 0
IsInt width values.Null = Unit {0}
IsInt width (values.Int n) = FitsSigned width n
IsInt width _ = ⊥

-- the number in a slot, 0 where it is null
abbrev pub int_of : Value → ℤ
int_of (values.Int n) = n
int_of (values.Dec n) = n
int_of _ = pos 0

pub int_fits : (width : Width) (value : Value) → IsInt width value → FitsSigned width (int_of value)
int_fits width values.Null is = fits_signed_from_abs width (pos 0) (pow_pos _)
int_fits width (values.Int n) is = is
int_fits width value is = absurd is

-- one list for the other, each part of which is the same
pub flat_map-same : {A B : Type 0} (f g : A → List B) (xs : List A) → All (λ x. f x ≡ g x) xs → flat_map f xs ≡ flat_map g xs
flat_map-same f g [] each = refl
flat_map-same f g (x ∷ xs) each =
    let rest = flat_map-same f g xs (All-tail (λ y. f y ≡ g y) x xs each) in
    ap (λ front. front ++ flat_map f xs) (All-head (λ y. f y ≡ g y) x xs each) ∙ ap (λ back. g x ++ back) rest

-- the bits of each number
abbrev bits_of_each : Width → List Value → List ℕ
bits_of_each width column = map (λ value. cast_unsigned width (int_of value)) column

signs_back : (width : Width) (column : List Value) → All (λ value. FitsSigned width (int_of value)) column → map (cast_signed width) (bits_of_each width column) ≡ map int_of column
signs_back width [] fits = refl
signs_back width (value ∷ column) fits =
    let P : Value → Type 0 = λ v. FitsSigned width (int_of v) in
    ap (λ z. z ∷ map (cast_signed width) (bits_of_each width column)) (to_z-of_z width (int_of value) (All-head P value column fits))
    ∙ ap (λ rest. int_of value ∷ rest) (signs_back width column (All-tail P value column fits))

-- so many bytes hold the numbers of a width
abbrev pub HoldsWidth : Width → ℕ → Type 0
HoldsWidth width size = (z : ℤ) → FitsSigned width z → cast_unsigned width z < 256 ^ size

-- signed numbers of a width are read back
pub signed_back : (width : Width) (size : ℕ) (slot : Value → List ℕ) (column : List Value) → HoldsWidth width size
    → All (λ value. FitsSigned width (int_of value)) column → All (λ value. slot value ≡ little_bytes size (cast_unsigned width (int_of value))) column
    → signed_in width size (length column) (flat_map slot column) ≡ Some (map int_of column)
signed_back width size slot column holds fits slots =
    let number = λ (value : Value). cast_unsigned width (int_of value) in
    let long : length (map number column) ≡ length column = length-map column number in
    let bytes : flat_map slot column ≡ flat_map (little_bytes size) (map number column) =
    flat_map-same slot (λ value. little_bytes size (number value)) column slots ∙ sym (flat_map-map (little_bytes size) number column) in
    let low = unsigned_back size (map number column) (λ k below.
    let within : k < length column = omega (arith, below, long) in
    let N : ℕ → Type 0 = λ n. n < 256 ^ size in
    subst N (sym (get_or-map number column k values.Null 0 within)) (holds (int_of (get_or column k values.Null)) (fits k values.Null within))) in
    ap (λ b. option_map (map (cast_signed width)) (unsigned_in size (length column) b)) bytes
    ∙ ap (λ n. option_map (map (cast_signed width)) (unsigned_in size n (flat_map (little_bytes size) (map number column)))) (sym long)
    ∙ ap (option_map (map (cast_signed width))) low
    ∙ ap (λ xs. Some xs) (signs_back width column fits)

ints_values : (width : Width) (column : List Value) → All (IsInt width) column → map int_value (optional (map int_of column) (map is_valid column)) ≡ column
ints_values width [] each = refl
ints_values width (values.Null ∷ column) each = ap (λ rest. values.Null ∷ rest) (ints_values width column (All-tail (IsInt width) values.Null column each))
ints_values width (values.Int n ∷ column) each = ap (λ rest. values.Int n ∷ rest) (ints_values width column (All-tail (IsInt width) (values.Int n) column each))
ints_values width (value ∷ column) each = absurd (All-head (IsInt width) value column each)

-- null or a whole number of a width, and the bytes of its slot
pub record IsSlot (width : Width) (size : ℕ) (bytes : List ℕ) (value : Value) : Type 0 where
  pub whole : IsInt width value
  pub slot : bytes ≡ little_bytes size (cast_unsigned width (int_of value))

-- whole numbers are read back
pub ints_back : (width : Width) (size : ℕ) (slot : Value → List ℕ) (column : List Value) → HoldsWidth width size → All (λ value. IsSlot width size (slot value) value) column
    → ints_in width size (length column) (map is_valid column) (flat_map slot column) ≡ Some column
ints_back width size slot column holds slots =
    let P : Value → Type 0 = λ value. IsSlot width size (slot value) value in
    let whole = All-weaker P (IsInt width) (λ value is. is.whole) column slots in
    let fits = All-weaker (IsInt width) (λ value. FitsSigned width (int_of value)) (int_fits width) column whole in
    let same = All-weaker P (λ value. slot value ≡ little_bytes size (cast_unsigned width (int_of value))) (λ value is. is.slot) column slots in
    ap (option_map (λ numbers. map int_value (optional numbers (map is_valid column)))) (signed_back width size slot column holds fits same)
    ∙ ap (λ xs. Some xs) (ints_values width column whole)

-- null, or a decimal of at most so many digits
abbrev pub IsDec : ℕ → Value → Type 0
IsDec precision values.Null = Unit {0}
IsDec precision (values.Dec n) = unsigned_abs n < 10 ^ precision
IsDec precision _ = ⊥

dec_fits : (precision : ℕ) (value : Value) → precision ≤ 38 → IsDec precision value → FitsSigned w128 (int_of value)
dec_fits precision values.Null within is = fits_signed_from_abs w128 (pos 0) (pow_pos 127)
dec_fits precision (values.Dec n) within is =
    let most : 10 ^ precision ≤ 10 ^ 38 = pow-le-pow_right (lit< tt) within in
    fits_signed_from_abs w128 n (omega (arith, is, most))
dec_fits precision (values.Bool b) within is = absurd is
dec_fits precision (values.Int n) within is = absurd is
dec_fits precision (values.Bytes bytes) within is = absurd is

decs_values : (precision : ℕ) (column : List Value) → All (IsDec precision) column → map dec_value (optional (map int_of column) (map is_valid column)) ≡ column
decs_values precision [] each = refl
decs_values precision (values.Null ∷ column) each = ap (λ rest. values.Null ∷ rest) (decs_values precision column (All-tail (IsDec precision) values.Null column each))
decs_values precision (values.Dec n ∷ column) each = ap (λ rest. values.Dec n ∷ rest) (decs_values precision column (All-tail (IsDec precision) (values.Dec n) column each))
decs_values precision (value ∷ column) each = absurd (All-head (IsDec precision) value column each)

digits_pass : (precision : ℕ) (column : List Value) → All (IsDec precision) column → list_all (has_digits precision) (optional (map int_of column) (map is_valid column)) ≡ true
digits_pass precision [] each = refl
digits_pass precision (values.Null ∷ column) each = digits_pass precision column (All-tail (IsDec precision) values.Null column each)
digits_pass precision (values.Dec n ∷ column) each =
    let low = All-head (IsDec precision) (values.Dec n) column each in
    let here : nat_lt (unsigned_abs n) (10 ^ precision) ≡ true = le-leb (suc (unsigned_abs n)) (10 ^ precision) low in
    rw here (digits_pass precision column (All-tail (IsDec precision) (values.Dec n) column each))
digits_pass precision (value ∷ column) each = absurd (All-head (IsDec precision) value column each)

dec_slot : (precision scale : ℕ) (value : Value) → IsDec precision value → slot_bytes (kinds.Decimal precision scale) value ≡ little_bytes 16 (cast_unsigned w128 (int_of value))
dec_slot precision scale values.Null is = refl
dec_slot precision scale (values.Dec n) is = refl
dec_slot precision scale value is = absurd is

-- decimals are read back
pub decimals_back : (precision scale : ℕ) (column : List Value) → precision ≤ 38 → All (IsDec precision) column
    → decimals_in precision (length column) (map is_valid column) (flat_map (slot_bytes (kinds.Decimal precision scale)) column) ≡ Some column
unfolding decimals_in
decimals_back precision scale column within each =
    let slot = slot_bytes (kinds.Decimal precision scale) in
    let fits = All-weaker (IsDec precision) (λ value. FitsSigned w128 (int_of value)) (λ value is. dec_fits precision value within is) column each in
    let same = All-weaker (IsDec precision) (λ value. slot value ≡ little_bytes 16 (cast_unsigned w128 (int_of value))) (dec_slot precision scale) column each in
    let numbers = signed_back w128 16 slot column (λ z fit. Fits-lt-pow (Fits-of_z fit)) fits same in
    rw (numbers, digits_pass precision column each) (ap (λ xs. Some xs) (decs_values precision column each))
