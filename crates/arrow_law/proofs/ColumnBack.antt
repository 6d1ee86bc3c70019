-- The values of a column are read back from its buffers.
use Rattle.std.proofs.Common.{◌≡◌, ◌∙◌, ℕ, ◌*◌, ◌^◌, ◌<◌, ◌≤◌, List, [], ◌∷◌, Some, None, length, map, refl, sym, ap, arith}
use Rattle.std.specs.List.{flat_map, All}
use Rattle.std.specs.Option.{option_map}
use Rattle.std.specs.Int.{Width, w8, w16, w32, w64}
use Rattle.std.proofs.lemmas.List.{length-map, length-append}
use Rattle.std.proofs.lemmas.List.Elements.{All-head, All-tail, All-weaker}
use Rattle.std.proofs.Math.Facts.{Fits-of_z, Fits-lt-pow}
use Rattle.sub_types.specs.Kind.{IsKind}
use Rattle.sub_types.specs.Value.{InKind, IsShort, FitsTy, MAX_TEXT}
use Rattle.sub_types.specs.Nullable.{bool_value}
use Rattle.sub_types.specs.Optional.{optional}
use Rattle.sub_types.specs.declared.kind.Kind.{Kind}
use Rattle.sub_types.specs.declared.kind.Kind.TheVariants as kinds
use Rattle.sub_types.specs.declared.kind.Ty.{Ty}
use Rattle.sub_types.specs.declared.value.Value.{Value}
use Rattle.sub_types.specs.declared.value.Value.TheVariants as values
use Rattle.arrow_meta.specs.declared.field.Layout.TheVariants.{Plain}
use Rattle.arrow_meta.specs.Buffers.{is_valid, is_truth, text_bytes, slot_bytes, packed, value_buffers, column_buffers}
use Rattle.arrow_meta.specs.Values.{values_in, bits_in, ints_in}
use Rattle.arrow_meta.specs.Batch.{buffer_values}
use Rattle.arrow_law.proofs.Validity.{bits_in_back, validity_back}
use Rattle.arrow_law.proofs.Numbers.{IsDec, IsSlot, HoldsWidth, ints_back, decimals_back}
use Rattle.arrow_law.proofs.Texts.{IsBytes, IsText, binaries_back, texts_back}

-- null, or a truth value
abbrev IsBool : Value → Type 0
IsBool values.Null = Unit {0}
IsBool (values.Bool b) = Unit {0}
IsBool _ = ⊥

truths_values : (column : List Value) → All IsBool column → map bool_value (optional (map is_truth column) (map is_valid column)) ≡ column
truths_values [] each = refl
truths_values (values.Null ∷ column) each = ap (λ rest. values.Null ∷ rest) (truths_values column (All-tail IsBool values.Null column each))
truths_values (values.Bool b ∷ column) each = ap (λ rest. values.Bool b ∷ rest) (truths_values column (All-tail IsBool (values.Bool b) column each))
truths_values (value ∷ column) each = absurd (All-head IsBool value column each)

truths_back : (column : List Value) → All IsBool column
    → option_map (λ truths. map bool_value (optional truths (map is_valid column))) (bits_in (length column) (packed (map is_truth column))) ≡ Some column
truths_back column each =
    let long : length (map is_truth column) ≡ length column = length-map column is_truth in
    ap (λ n. option_map (λ truths. map bool_value (optional truths (map is_valid column))) (bits_in n (packed (map is_truth column)))) (sym long)
    ∙ ap (option_map (λ truths. map bool_value (optional truths (map is_valid column)))) (bits_in_back (map is_truth column))
    ∙ ap (λ xs. Some xs) (truths_values column each)

-- texts that aren't too long are short together
pub texts_length : (column : List Value) → All IsShort column → length (flat_map text_bytes column) ≤ MAX_TEXT * length column
texts_length [] short = omega arith
texts_length (value ∷ column) short =
    let rest = texts_length column (All-tail IsShort value column short) in
    let own : length (text_bytes value) ≤ MAX_TEXT = elim value as (λ v. IsShort v → length (text_bytes v) ≤ MAX_TEXT) [
      | values.Null ↦ λ h. omega arith
      | values.Bool b ↦ λ h. omega arith
      | values.Int n ↦ λ h. omega arith
      | values.Dec n ↦ λ h. omega arith
      | values.Bytes bytes ↦ λ h. h
    ] (All-head IsShort value column short) in
    let both = length-append (text_bytes value) (flat_map text_bytes column) in omega (arith, rest, own, both)

-- what is in a kind
bool_kind : (value : Value) → InKind kinds.Bool value → IsBool value
bool_kind values.Null is = tt
bool_kind (values.Bool b) is = tt
bool_kind value is = absurd is

text_kind : (value : Value) → InKind kinds.Text value → IsText value
text_kind values.Null is = tt
text_kind (values.Bytes bytes) is = is
text_kind value is = absurd is

binary_kind : (value : Value) → InKind kinds.Binary value → IsBytes value
binary_kind values.Null is = tt
binary_kind (values.Bytes bytes) is = tt
binary_kind value is = absurd is

decimal_kind : (precision scale : ℕ) (value : Value) → InKind (kinds.Decimal precision scale) value → IsDec precision value
decimal_kind precision scale values.Null is = tt
decimal_kind precision scale (values.Dec n) is = is
decimal_kind precision scale value is = absurd is

i8_slot : (value : Value) → InKind kinds.I8 value → IsSlot w8 1 (slot_bytes kinds.I8 value) value
i8_slot values.Null is = record { whole = tt; slot = refl }
i8_slot (values.Int n) is = record { whole = is; slot = refl }
i8_slot value is = absurd is

i16_slot : (value : Value) → InKind kinds.I16 value → IsSlot w16 2 (slot_bytes kinds.I16 value) value
i16_slot values.Null is = record { whole = tt; slot = refl }
i16_slot (values.Int n) is = record { whole = is; slot = refl }
i16_slot value is = absurd is

i32_slot : (value : Value) → InKind kinds.I32 value → IsSlot w32 4 (slot_bytes kinds.I32 value) value
i32_slot values.Null is = record { whole = tt; slot = refl }
i32_slot (values.Int n) is = record { whole = is; slot = refl }
i32_slot value is = absurd is

i64_slot : (value : Value) → InKind kinds.I64 value → IsSlot w64 8 (slot_bytes kinds.I64 value) value
i64_slot values.Null is = record { whole = tt; slot = refl }
i64_slot (values.Int n) is = record { whole = is; slot = refl }
i64_slot value is = absurd is

date_slot : (value : Value) → InKind kinds.Date value → IsSlot w32 4 (slot_bytes kinds.Date value) value
date_slot values.Null is = record { whole = tt; slot = refl }
date_slot (values.Int n) is = record { whole = is; slot = refl }
date_slot value is = absurd is

timestamp_slot : (value : Value) → InKind kinds.Timestamp value → IsSlot w64 8 (slot_bytes kinds.Timestamp value) value
timestamp_slot values.Null is = record { whole = tt; slot = refl }
timestamp_slot (values.Int n) is = record { whole = is; slot = refl }
timestamp_slot value is = absurd is

-- the whole numbers of a column of a kind
whole_back : (kind : Kind) (width : Width) (size : ℕ) (column : List Value) → HoldsWidth width size
    → ((value : Value) → InKind kind value → IsSlot width size (slot_bytes kind value) value) → All (InKind kind) column
    → ints_in width size (length column) (map is_valid column) (flat_map (slot_bytes kind) column) ≡ Some column
whole_back kind width size column holds slot each =
    ints_back width size (slot_bytes kind) column holds (All-weaker (InKind kind) (λ value. IsSlot width size (slot_bytes kind value) value) slot column each)

-- the values of a column of a kind
values_back : (kind : Kind) (column : List Value) → IsKind kind → All (InKind kind) column → length (flat_map text_bytes column) < 2 ^ 31
    → values_in kind Plain None (length column) (map is_valid column) (value_buffers kind column) ≡ Some column
values_back kinds.Bool column is each short = truths_back column (All-weaker (InKind kinds.Bool) IsBool bool_kind column each)
values_back kinds.I8 column is each short = whole_back kinds.I8 w8 1 column (λ z fits. Fits-lt-pow (Fits-of_z fits)) i8_slot each
values_back kinds.I16 column is each short = whole_back kinds.I16 w16 2 column (λ z fits. Fits-lt-pow (Fits-of_z fits)) i16_slot each
values_back kinds.I32 column is each short = whole_back kinds.I32 w32 4 column (λ z fits. Fits-lt-pow (Fits-of_z fits)) i32_slot each
values_back kinds.I64 column is each short = whole_back kinds.I64 w64 8 column (λ z fits. Fits-lt-pow (Fits-of_z fits)) i64_slot each
values_back kinds.Date column is each short = whole_back kinds.Date w32 4 column (λ z fits. Fits-lt-pow (Fits-of_z fits)) date_slot each
values_back kinds.Timestamp column is each short = whole_back kinds.Timestamp w64 8 column (λ z fits. Fits-lt-pow (Fits-of_z fits)) timestamp_slot each
values_back kinds.Text column is each short = texts_back column short (All-weaker (InKind kinds.Text) IsText text_kind column each)
values_back kinds.Binary column is each short = binaries_back column short (All-weaker (InKind kinds.Binary) IsBytes binary_kind column each)
values_back (kinds.Decimal precision scale) column is each short =
    decimals_back precision scale column is.within (All-weaker (InKind (kinds.Decimal precision scale)) (IsDec precision) (decimal_kind precision scale) column each)

-- a column, from its validity and its values
pub column_back : (ty : Ty) (place : ℕ) (column : List Value) → IsKind ty.kind → All (FitsTy ty) column → length column ≤ 1024
    → buffer_values (record { column = place; kind = ty.kind; layout = Plain; dictionary = None }) (length column) (column_buffers ty.kind column) ≡ Some column
column_back ty place column is each few =
    let in_kind = All-weaker (FitsTy ty) (InKind ty.kind) (λ value fits. fits.in_kind) column each in
    let short = All-weaker (FitsTy ty) IsShort (λ value fits. fits.short) column each in
    let long = texts_length column short in
    let bytes : length (flat_map text_bytes column) < 2 ^ 31 = omega (arith, long, few) in
    rw (validity_back column) (values_back ty.kind column is in_kind bytes)
