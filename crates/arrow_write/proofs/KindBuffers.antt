-- The buffers of a column by its kind are those by how it is stored.
use Rattle.std.proofs.Common.{◌≡◌, ◌+◌, ◌∙◌, ℕ, ℤ, pos, List, [], ◌∷◌, ◌++◌, length, map, Bool, true, false, cond, ◌&&◌, Option, Some, None, is_some, unwrap_or, sym, ap, refl, subst, arith}
use Rattle.std.specs.List.{flat_map, concat, list_all, count_by}
use Rattle.std.specs.Int.{w8, w16, w32, w64, w128, cast_unsigned}
use Rattle.std.proofs.lemmas.List.Sums.{sum_by-cons}
use Rattle.byteorder.specs.Endian.{little_bytes}
use Rattle.sub_types.specs.Slots.{slots}
use Rattle.sub_types.specs.declared.kind.Kind.{Kind}
use Rattle.sub_types.specs.declared.kind.Kind.TheVariants as kinds
use Rattle.sub_types.specs.declared.value.Value.{Value}
use Rattle.batch.specs.declared.column_data.ColumnData.{ColumnData}
use Rattle.batch.specs.declared.column_data.ColumnData.TheVariants as stored
use Rattle.batch.specs.ColumnValues.{values_of, storage_of, kind_storage}
use Rattle.sub_types.specs.Nullable.{bool_value, int_value, dec_value, bytes_value}
use Rattle.arrow_meta.specs.Buffers.{is_valid, is_truth, text_bytes, slot_bytes, packed, text_ends, validity_buffer, value_buffers, column_buffers, null_count}
use Rattle.arrow_write.specs.Stored.{stored_buffers}
use Rattle.batch.specs.declared.column.Column.{Column}
use Rattle.batch.specs.Column.{column_values}
use Rattle.arrow_write.specs.declared.body.Body.{Body}
use Rattle.arrow_write.specs.Bodies.{Puts, count_false, validity_bytes, has_offsets, buffers_of}
use Rattle.arrow_write.proofs.BodyLaws.{Puts-more, Puts-kept}

-- a function of each value of a column, by what stands there
mapped : {T X : Type 0} (f : Value → X) (g : Option T → Value) (h : Option T → X) (column : List (Option T)) → ((o : Option T) → f (g o) ≡ h o) → map f (map g column) ≡ map h column
mapped f g h [] same = refl
mapped f g h (o ∷ column) same = ap (λ x. x ∷ map f (map g column)) (same o) ∙ ap (λ rest. h o ∷ rest) (mapped f g h column same)

flat_mapped : {T : Type 0} (f : Value → List ℕ) (g : Option T → Value) (zero : T) (h : T → List ℕ) (column : List (Option T)) → ((o : Option T) → f (g o) ≡ h (unwrap_or o zero)) → flat_map f (map g column) ≡ flat_map h (slots zero column)
flat_mapped f g zero h [] same = refl
flat_mapped f g zero h (o ∷ column) same = ap (λ x. x ++ flat_map f (map g column)) (same o) ∙ ap (λ rest. h (unwrap_or o zero) ++ rest) (flat_mapped f g zero h column same)

-- which values are there
valid_bool : (o : Option Bool) → is_valid (bool_value o) ≡ is_some o
valid_bool (Some b) = refl
valid_bool None = refl

valid_int : (o : Option ℤ) → is_valid (int_value o) ≡ is_some o
valid_int (Some n) = refl
valid_int None = refl

valid_dec : (o : Option ℤ) → is_valid (dec_value o) ≡ is_some o
valid_dec (Some n) = refl
valid_dec None = refl

valid_bytes : (o : Option (List ℕ)) → is_valid (bytes_value o) ≡ is_some o
valid_bytes (Some bytes) = refl
valid_bytes None = refl

pub validity-bool : (column : List (Option Bool)) → map is_some column ≡ map is_valid (map bool_value column)
validity-bool column = sym (mapped is_valid bool_value is_some column valid_bool)

pub validity-int : (column : List (Option ℤ)) → map is_some column ≡ map is_valid (map int_value column)
validity-int column = sym (mapped is_valid int_value is_some column valid_int)

pub validity-dec : (column : List (Option ℤ)) → map is_some column ≡ map is_valid (map dec_value column)
validity-dec column = sym (mapped is_valid dec_value is_some column valid_dec)

pub validity-bytes : (column : List (Option (List ℕ))) → map is_some column ≡ map is_valid (map bytes_value column)
validity-bytes column = sym (mapped is_valid bytes_value is_some column valid_bytes)

-- the validity and the nulls of a column by which values are there
all_valid : (column : List Value) → list_all (λ bit. bit) (map is_valid column) ≡ list_all is_valid column
all_valid [] = refl
all_valid (value ∷ column) = ap (λ rest. is_valid value && rest) (all_valid column)

pub validity-of-bits : (column : List Value) → validity_bytes (map is_valid column) ≡ validity_buffer column
unfolding validity_buffer
validity-of-bits column = ap (λ all. cond all [] (packed (map is_valid column))) (all_valid column)

pub nulls-of-bits : (column : List Value) → count_false (map is_valid column) ≡ null_count column
nulls-of-bits [] = refl
nulls-of-bits (value ∷ column) =
    sum_by-cons (λ bit. cond bit 0 1) (is_valid value) (map is_valid column) ∙ ap (λ n. cond (is_valid value) 0 1 + n) (nulls-of-bits column)
    ∙ sym (sum_by-cons (λ v. cond (is_valid v) 0 1) value column)

-- each truth value is true or false
pub count_both : (bits : List Bool) → count_false bits + count_by (λ bit. bit) bits ≡ length bits
count_both [] = refl
count_both (true ∷ bits) = omega (arith, count_both bits, sum_by-cons (λ bit. cond bit 0 1) true bits, sum_by-cons (λ bit. cond bit 1 0) true bits)
count_both (false ∷ bits) = omega (arith, count_both bits, sum_by-cons (λ bit. cond bit 0 1) false bits, sum_by-cons (λ bit. cond bit 1 0) false bits)

-- no false among the truth values, or one
all_true : (bits : List Bool) → count_false bits ≡ 0 → list_all (λ bit. bit) bits ≡ true
all_true [] none = refl
all_true (true ∷ bits) none = all_true bits (omega (arith, sum_by-cons (λ bit. cond bit 0 1) true bits))
all_true (false ∷ bits) none = absurd (omega (arith, sum_by-cons (λ bit. cond bit 0 1) false bits))

some_false : (bits : List Bool) → (count_false bits ≡ 0 → ⊥) → list_all (λ bit. bit) bits ≡ false
some_false [] some = absurd (some refl)
some_false (true ∷ bits) some = some_false bits (λ none. some (omega (arith, none, sum_by-cons (λ bit. cond bit 0 1) true bits)))
some_false (false ∷ bits) some = refl

pub validity-all : (bits : List Bool) → count_false bits ≡ 0 → validity_bytes bits ≡ []
validity-all bits none = ap (λ all. cond all [] (packed bits)) (all_true bits none)

pub validity-some : (bits : List Bool) → (count_false bits ≡ 0 → ⊥) → validity_bytes bits ≡ packed bits
validity-some bits some = ap (λ all. cond all [] (packed bits)) (some_false bits some)

-- the values
truth : (o : Option Bool) → is_truth (bool_value o) ≡ unwrap_or o false
truth (Some b) = refl
truth None = refl

text : (o : Option (List ℕ)) → text_bytes (bytes_value o) ≡ unwrap_or o []
text (Some bytes) = refl
text None = refl

texts : (column : List (Option (List ℕ))) → map text_bytes (map bytes_value column) ≡ slots [] column
texts column = mapped text_bytes bytes_value (λ o. unwrap_or o []) column text

all_texts : (column : List (Option (List ℕ))) → flat_map text_bytes (map bytes_value column) ≡ concat (slots [] column)
all_texts [] = refl
all_texts (o ∷ column) = ap (λ x. x ++ flat_map text_bytes (map bytes_value column)) (text o) ∙ ap (λ rest. unwrap_or o [] ++ rest) (all_texts column)

text_buffers : (column : List (Option (List ℕ))) → (little_bytes 4 0 ++ text_ends 0 (slots [] column)) ∷ concat (slots [] column) ∷ []
    ≡ (little_bytes 4 0 ++ text_ends 0 (map text_bytes (map bytes_value column))) ∷ flat_map text_bytes (map bytes_value column) ∷ []
text_buffers column =
    ap (λ xs. (little_bytes 4 0 ++ text_ends 0 xs) ∷ concat (slots [] column) ∷ []) (sym (texts column))
    ∙ ap (λ (b : List ℕ). (little_bytes 4 0 ++ text_ends 0 (map text_bytes (map bytes_value column))) ∷ b ∷ []) (sym (all_texts column))

int_buffers : (f : Value → List ℕ) (h : ℤ → List ℕ) (column : List (Option ℤ)) → ((o : Option ℤ) → f (int_value o) ≡ h (unwrap_or o (pos 0))) → flat_map h (slots (pos 0) column) ∷ [] ≡ flat_map f (map int_value column) ∷ []
int_buffers f h column same = ap (λ (b : List ℕ). b ∷ []) (sym (flat_mapped f int_value (pos 0) h column same))

slot_i8 : (o : Option ℤ) → slot_bytes kinds.I8 (int_value o) ≡ little_bytes 1 (cast_unsigned w8 (unwrap_or o (pos 0)))
slot_i8 (Some n) = refl
slot_i8 None = refl

slot_i16 : (o : Option ℤ) → slot_bytes kinds.I16 (int_value o) ≡ little_bytes 2 (cast_unsigned w16 (unwrap_or o (pos 0)))
slot_i16 (Some n) = refl
slot_i16 None = refl

slot_i32 : (o : Option ℤ) → slot_bytes kinds.I32 (int_value o) ≡ little_bytes 4 (cast_unsigned w32 (unwrap_or o (pos 0)))
slot_i32 (Some n) = refl
slot_i32 None = refl

slot_i64 : (o : Option ℤ) → slot_bytes kinds.I64 (int_value o) ≡ little_bytes 8 (cast_unsigned w64 (unwrap_or o (pos 0)))
slot_i64 (Some n) = refl
slot_i64 None = refl

slot_date : (o : Option ℤ) → slot_bytes kinds.Date (int_value o) ≡ little_bytes 4 (cast_unsigned w32 (unwrap_or o (pos 0)))
slot_date (Some n) = refl
slot_date None = refl

slot_timestamp : (o : Option ℤ) → slot_bytes kinds.Timestamp (int_value o) ≡ little_bytes 8 (cast_unsigned w64 (unwrap_or o (pos 0)))
slot_timestamp (Some n) = refl
slot_timestamp None = refl

slot_decimal : (precision scale : ℕ) (o : Option ℤ) → slot_bytes (kinds.Decimal precision scale) (dec_value o) ≡ little_bytes 16 (cast_unsigned w128 (unwrap_or o (pos 0)))
slot_decimal precision scale (Some n) = refl
slot_decimal precision scale None = refl

pub stored-values : (kind : Kind) (values : ColumnData) → storage_of values ≡ kind_storage kind → stored_buffers values ≡ value_buffers kind (values_of values)
stored-values kinds.Bool (stored.Bool column) same = ap (λ bits. packed bits ∷ []) (sym (mapped is_truth bool_value (λ o. unwrap_or o false) column truth))
stored-values kinds.I8 (stored.I8 column) same = int_buffers (slot_bytes kinds.I8) (λ n. little_bytes 1 (cast_unsigned w8 n)) column slot_i8
stored-values kinds.I16 (stored.I16 column) same = int_buffers (slot_bytes kinds.I16) (λ n. little_bytes 2 (cast_unsigned w16 n)) column slot_i16
stored-values kinds.I32 (stored.I32 column) same = int_buffers (slot_bytes kinds.I32) (λ n. little_bytes 4 (cast_unsigned w32 n)) column slot_i32
stored-values kinds.I64 (stored.I64 column) same = int_buffers (slot_bytes kinds.I64) (λ n. little_bytes 8 (cast_unsigned w64 n)) column slot_i64
stored-values kinds.Date (stored.I32 column) same = int_buffers (slot_bytes kinds.Date) (λ n. little_bytes 4 (cast_unsigned w32 n)) column slot_date
stored-values kinds.Timestamp (stored.I64 column) same = int_buffers (slot_bytes kinds.Timestamp) (λ n. little_bytes 8 (cast_unsigned w64 n)) column slot_timestamp
stored-values (kinds.Decimal precision scale) (stored.I128 column) same =
    ap (λ (b : List ℕ). b ∷ []) (sym (flat_mapped (slot_bytes (kinds.Decimal precision scale)) dec_value (pos 0) (λ n. little_bytes 16 (cast_unsigned w128 n)) column (slot_decimal precision scale)))
stored-values kinds.Text (stored.Bytes column) same = text_buffers column
stored-values kinds.Binary (stored.Bytes column) same = text_buffers column
stored-values _ _ same = absurd (cc)

-- no values
pub no_slots-texts : (kind : Kind) → has_offsets kind ≡ true → (0 ∷ 0 ∷ 0 ∷ 0 ∷ []) ∷ [] ∷ [] ≡ value_buffers kind []
no_slots-texts kinds.Text e = refl
no_slots-texts kinds.Binary e = refl
no_slots-texts _ e = absurd (cc)

pub no_slots-others : (kind : Kind) → has_offsets kind ≡ false → [] ∷ [] ≡ value_buffers kind []
unfolding packed
no_slots-others kinds.Text e = absurd (cc)
no_slots-others kinds.Binary e = absurd (cc)
no_slots-others _ e = refl

pub no_values : (kind : Kind) → [] ∷ value_buffers kind [] ≡ column_buffers kind []
unfolding validity_buffer
no_values kind = refl

-- a column that is put
pub Puts-column : (column : Column) (valid : List Bool) (old mid new last : Body) → valid ≡ map is_valid (column_values column) → Puts old mid (validity_bytes valid ∷ []) → Puts mid new (stored_buffers column.values)
    → last.bytes.items ≡ new.bytes.items → last.places.items ≡ new.places.items → Puts old last (buffers_of column)
Puts-column column valid old mid new last bits validity values bytes places =
    let same : validity_bytes valid ∷ stored_buffers column.values ≡ buffers_of column =
    ap (λ v. validity_bytes v ∷ stored_buffers column.values) bits ∙ ap (λ (v : List ℕ). v ∷ stored_buffers column.values) (validity-of-bits (column_values column))
    ∙ ap (λ (bs : List (List ℕ)). validity_buffer (column_values column) ∷ bs) (stored-values column.ty.kind column.values column.stored) in
    Puts-kept old new last (buffers_of column) (subst (Puts old new) same (Puts-more old mid new (validity_bytes valid ∷ []) (stored_buffers column.values) validity values)) bytes places

-- a column without values that is put
pub Puts-none : (kind : Kind) (old mid new last : Body) → Puts old mid ([] ∷ []) → Puts mid new (value_buffers kind []) → last.bytes.items ≡ new.bytes.items → last.places.items ≡ new.places.items → Puts old last (column_buffers kind [])
Puts-none kind old mid new last validity values bytes places =
    Puts-kept old new last (column_buffers kind []) (subst (Puts old new) (no_values kind) (Puts-more old mid new ([] ∷ []) (value_buffers kind []) validity values)) bytes places
