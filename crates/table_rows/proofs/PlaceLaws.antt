-- The bits and the texts of a column, place by place.
use Rattle.std.proofs.Common.{◌≡◌, ◌∙◌, ℕ, zero, suc, ◌+◌, ◌*◌, ◌/◌, ◌%◌, ◌<◌, ◌≤◌, ◌==◌, List, [], ◌∷◌, length, map, get_or, Bool, true, false, not, cond, ℤ, Option, Some, None, is_some, ⊎_elim, refl, sym, ap, arith}
use Rattle.std.specs.Int.{bit_at}
use Rattle.std.specs.List.{concat}
use Rattle.std.specs.Option.{option_map}
use Rattle.std.proofs.Math.ListN.{get_or-map as get_or-of_map}
use Rattle.std.proofs.lemmas.Bool.{cases_lt, le-ltb}
use Rattle.std.proofs.lemmas.List.{length-append}
use Rattle.std.proofs.lemmas.List.FromFn.{get_or-map-range_with_len}
use Rattle.sub_types.specs.Bits.{bit_of, bits_of}
use Rattle.sub_types.specs.Nullable.{bool_value, int_value, dec_value, bytes_value}
use Rattle.sub_types.specs.Slots.{slots}
use Rattle.sub_types.specs.Value.{MAX_TEXT}
use Rattle.sub_types.specs.declared.fault.FaultKind.{FaultKind}
use Rattle.sub_types.specs.declared.fault.FaultKind.TheVariants.{NullInRequired, TextTooLong}
use Rattle.sub_types.specs.declared.kind.Ty.{Ty}
use Rattle.sub_types.specs.declared.value.Value.{Value}
use Rattle.sub_types.specs.declared.value.Value.TheVariants as values
use Rattle.batch.specs.ColumnValues.{values_of}
use Rattle.batch.specs.declared.column_data.ColumnData.{ColumnData}
use Rattle.batch.specs.declared.column_data.ColumnData.TheVariants as stored
use Rattle.table_rows.specs.declared.first.RowFault.{RowFault}
use Rattle.table_rows.specs.First.{IsFirst, IsFirstPlace}
use Rattle.table_rows.specs.Read.{is_there, is_long, null_fault, length_fault}

-- each bit of 255 is set
bit_of_255 : (r : ℕ) → r < 8 → (bit_at 255 r == 1) ≡ true
bit_of_255 zero below = refl
bit_of_255 (suc zero) below = refl
bit_of_255 (suc (suc zero)) below = refl
bit_of_255 (suc (suc (suc zero))) below = refl
bit_of_255 (suc (suc (suc (suc zero)))) below = refl
bit_of_255 (suc (suc (suc (suc (suc zero))))) below = refl
bit_of_255 (suc (suc (suc (suc (suc (suc zero)))))) below = refl
bit_of_255 (suc (suc (suc (suc (suc (suc (suc zero))))))) below = refl
bit_of_255 (suc (suc (suc (suc (suc (suc (suc (suc r)))))))) below = absurd (omega arith)

-- one byte more of ones
pub ones_more : (bits : List Bool) (bytes : List ℕ) (i byte : ℕ) → bits_of (length bits) bytes ≡ bits → byte ≡ get_or bytes i 0 → byte ≡ 255 → 8 * (i + 1) ≤ length bits
    → ((k : ℕ) → k < 8 * i → get_or bits k false ≡ true) → (k : ℕ) → k < 8 * (i + 1) → get_or bits k false ≡ true
ones_more bits bytes i byte same read full within before k below =
    ⊎_elim
    (λ (early : k < 8 * i). before k early)
    (λ (late : 8 * i ≤ k).
    let place : k / 8 ≡ i = omega arith in
    let bit : k % 8 < 8 = omega arith in
    let inside : k < length bits = omega arith in
    let ones : get_or bytes (k / 8) 0 ≡ 255 = ap (λ j. get_or bytes j 0) place ∙ sym read ∙ full in
    ap (λ (all : List Bool). get_or all k false) (sym same)
    ∙ get_or-map-range_with_len (bit_of bytes) 0 (length bits) k k false inside (omega arith)
    ∙ ap (λ b. bit_at b (k % 8) == 1) ones ∙ bit_of_255 (k % 8) bit)
    (cases_lt k (8 * i))

there : {A : Type 0} (f : Option A → Value) → ((o : Option A) → is_some o ≡ is_there (f o)) → (column : List (Option A)) → map is_some column ≡ map is_there (map f column)
there f same [] = refl
there f same (x ∷ column) = ap (λ b. b ∷ map is_some column) (same x) ∙ ap (λ rest. is_there (f x) ∷ rest) (there f same column)

-- which values of a column are there
pub bools_there : (column : List (Option Bool)) → map is_some column ≡ map is_there (map bool_value column)
bools_there column = there bool_value (λ o. elim o as (λ one. is_some one ≡ is_there (bool_value one)) [ Some b ↦ refl | None ↦ refl ]) column

pub ints_there : (column : List (Option ℤ)) → map is_some column ≡ map is_there (map int_value column)
ints_there column = there int_value (λ o. elim o as (λ one. is_some one ≡ is_there (int_value one)) [ Some n ↦ refl | None ↦ refl ]) column

pub decs_there : (column : List (Option ℤ)) → map is_some column ≡ map is_there (map dec_value column)
decs_there column = there dec_value (λ o. elim o as (λ one. is_some one ≡ is_there (dec_value one)) [ Some n ↦ refl | None ↦ refl ]) column

pub bytes_there : (column : List (Option (List ℕ))) → map is_some column ≡ map is_there (map bytes_value column)
bytes_there column = there bytes_value (λ o. elim o as (λ one. is_some one ≡ is_there (bytes_value one)) [ Some bytes ↦ refl | None ↦ refl ]) column

-- none is too long where all together aren't
pub none_long : (texts : List (Option (List ℕ))) (k : ℕ) → length (concat (slots [] texts)) ≤ MAX_TEXT → is_long (get_or texts k None) ≡ false
none_long [] k short = refl
none_long (Some text ∷ texts) zero short = le-ltb MAX_TEXT (length text) (omega (arith, length-append text (concat (slots [] texts))))
none_long (None ∷ texts) zero short = refl
none_long (Some text ∷ texts) (suc k) short = none_long texts k (omega (arith, length-append text (concat (slots [] texts))))
none_long (None ∷ texts) (suc k) short = none_long texts k short

-- a place with a fault of a kind wherever a test fails
abbrev pub fault_at : FaultKind → ℕ → RowFault
fault_at kind row = record { row = row; kind = kind }

-- the first fault is where the test fails first
pub IsFirst-from_place : (fault : ℕ → Option FaultKind) (fails : ℕ → Bool) (kind : FaultKind) (rows : ℕ) (place : Option ℕ) → ((k : ℕ) → fault k ≡ cond (fails k) (Some kind) None)
    → IsFirstPlace fails rows place → IsFirst fault rows (option_map (fault_at kind) place)
IsFirst-from_place fault fails kind rows None same first = λ k below. same k ∙ ap (λ b. cond b (Some kind) None) (first k below)
IsFirst-from_place fault fails kind rows (Some place) same first = record {
  within = first.within;
  here = same place ∙ ap (λ b. cond b (Some kind) None) first.here;
  none_before = λ k below. same k ∙ ap (λ b. cond b (Some kind) None) (first.none_before k below);
}

required_null : (nullable : Bool) → nullable ≡ false → cond nullable None (Some NullInRequired) ≡ Some NullInRequired
required_null true h = absurd (cc)
required_null false h = refl

null_is : (ty : Ty) (value : Value) → ty.nullable ≡ false → null_fault ty value ≡ cond (not (is_there value)) (Some NullInRequired) None
null_is ty values.Null required = required_null ty.nullable required
null_is ty (values.Bool b) required = refl
null_is ty (values.Int n) required = refl
null_is ty (values.Dec n) required = refl
null_is ty (values.Bytes bytes) required = refl

-- a null where none may stand is where the validity is false
pub nulls_at : (ty : Ty) (column : List Value) (valid : List Bool) → ty.nullable ≡ false → valid ≡ map is_there column → (k : ℕ)
    → null_fault ty (get_or column k values.Null) ≡ cond (not (get_or valid k false)) (Some NullInRequired) None
nulls_at ty column valid required same k =
    null_is ty (get_or column k values.Null) required
    ∙ ap (λ b. cond (not b) (Some NullInRequired) None) (sym (ap (λ (all : List Bool). get_or all k false) same ∙ get_or-of_map is_there column k values.Null))

long_is : (text : Option (List ℕ)) → length_fault (bytes_value text) ≡ cond (is_long text) (Some TextTooLong) None
long_is (Some text) = refl
long_is None = refl

-- a text that is too long
pub long_at : (texts : List (Option (List ℕ))) (k : ℕ) → length_fault (get_or (map bytes_value texts) k values.Null) ≡ cond (is_long (get_or texts k None)) (Some TextTooLong) None
long_at texts k = ap length_fault (get_or-of_map bytes_value texts k None) ∙ long_is (get_or texts k None)

-- other values are never too long
short_at : {A : Type 0} (f : Option A → Value) → ((o : Option A) → length_fault (f o) ≡ None) → (column : List (Option A)) (k : ℕ) → length_fault (get_or (map f column) k (f None)) ≡ None
short_at f short column k = ap length_fault (get_or-of_map f column k None) ∙ short (get_or column k None)

short_int : (o : Option ℤ) → length_fault (int_value o) ≡ None
short_int (Some n) = refl
short_int None = refl

short_dec : (o : Option ℤ) → length_fault (dec_value o) ≡ None
short_dec (Some n) = refl
short_dec None = refl

short_bool : (o : Option Bool) → length_fault (bool_value o) ≡ None
short_bool (Some b) = refl
short_bool None = refl

pub none_in_others : (column : ColumnData) → ((texts : List (Option (List ℕ))) → column ≡ stored.Bytes texts → ⊥) → (k : ℕ) → length_fault (get_or (values_of column) k values.Null) ≡ None
none_in_others (stored.Bool column) other k = short_at bool_value short_bool column k
none_in_others (stored.I8 column) other k = short_at int_value short_int column k
none_in_others (stored.I16 column) other k = short_at int_value short_int column k
none_in_others (stored.I32 column) other k = short_at int_value short_int column k
none_in_others (stored.I64 column) other k = short_at int_value short_int column k
none_in_others (stored.I128 column) other k = short_at dec_value short_dec column k
none_in_others (stored.Bytes texts) other k = absurd (other texts refl)
