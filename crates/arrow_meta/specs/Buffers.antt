-- What the buffers of a column hold (Arrow columnar format, "Physical Memory Layout").
use Rattle.std.specs.Prelude.{ℕ, ◌+◌, ◌*◌, ◌/◌, ◌^◌, List, [], ◌∷◌, ◌++◌, Bool, true, false, length, map, replicate, if◌then◌else◌, get_or}
use Rattle.std.specs.List.{range_with_len, enumerate_from, sum_by, flat_map, list_all}
use Rattle.std.specs.Int.{w8, w16, w32, w64, w128, cast_unsigned}
use Rattle.byteorder.specs.Endian.{little_bytes}
use Rattle.fb_bytes.specs.Layout.{filled}
use Rattle.sub_types.specs.Rows.{across}
use Rattle.sub_types.specs.declared.kind.Kind.{Kind}
use Rattle.sub_types.specs.declared.kind.Kind.TheVariants as kinds
use Rattle.sub_types.specs.declared.kind.Ty.{Ty}
use Rattle.sub_types.specs.declared.value.Value.{Value}
use Rattle.sub_types.specs.declared.value.Value.TheVariants as values

-- not null
abbrev pub is_valid : Value → Bool
is_valid values.Null = false
is_valid _ = true

-- whether it is the truth value true
abbrev pub is_truth : Value → Bool
is_truth (values.Bool b) = b
is_truth _ = false

-- the bytes of a text or binary value, none where it is null
abbrev pub text_bytes : Value → List ℕ
text_bytes (values.Bytes bytes) = bytes
text_bytes _ = []

-- the bytes of a value of fixed width: little-endian two's complement, zeros where it is null
abbrev pub slot_bytes : Kind → Value → List ℕ
slot_bytes kinds.I8 (values.Int n) = little_bytes 1 (cast_unsigned w8 n)
slot_bytes kinds.I8 _ = replicate 1 0
slot_bytes kinds.I16 (values.Int n) = little_bytes 2 (cast_unsigned w16 n)
slot_bytes kinds.I16 _ = replicate 2 0
slot_bytes kinds.I32 (values.Int n) = little_bytes 4 (cast_unsigned w32 n)
slot_bytes kinds.I32 _ = replicate 4 0
slot_bytes kinds.I64 (values.Int n) = little_bytes 8 (cast_unsigned w64 n)
slot_bytes kinds.I64 _ = replicate 8 0
slot_bytes kinds.Date (values.Int n) = little_bytes 4 (cast_unsigned w32 n)
slot_bytes kinds.Date _ = replicate 4 0
slot_bytes kinds.Timestamp (values.Int n) = little_bytes 8 (cast_unsigned w64 n)
slot_bytes kinds.Timestamp _ = replicate 8 0
slot_bytes (kinds.Decimal precision scale) (values.Dec n) = little_bytes 16 (cast_unsigned w128 n)
slot_bytes (kinds.Decimal precision scale) _ = replicate 16 0
slot_bytes _ _ = []

-- eight bits from a place on as a byte, the least first
abbrev pub byte_of_bits : List Bool → ℕ → ℕ
byte_of_bits bits place = sum_by (λ j. if get_or bits (place + j) false then 2 ^ j else 0) (range_with_len 0 8)

-- truth values eight to a byte, the unused bits 0
unfoldable pub packed : List Bool → List ℕ
packed bits = map (λ k. byte_of_bits bits (8 * k)) (range_with_len 0 ((length bits + 7) / 8))

-- where texts that stand one after the other end, four bytes each
abbrev pub text_ends : ℕ → List (List ℕ) → List ℕ
text_ends start [] = []
text_ends start (text ∷ texts) = little_bytes 4 (start + length text) ++ text_ends (start + length text) texts

-- the validity of a column: none where no value is null
unfoldable pub validity_buffer : List Value → List ℕ
validity_buffer column = if list_all is_valid column then [] else packed (map is_valid column)

-- the values of a column: bits, or offsets and bytes, or slots of a fixed width
abbrev pub value_buffers : Kind → List Value → List (List ℕ)
value_buffers kinds.Bool column = packed (map is_truth column) ∷ []
value_buffers kinds.Text column = (little_bytes 4 0 ++ text_ends 0 (map text_bytes column)) ∷ flat_map text_bytes column ∷ []
value_buffers kinds.Binary column = (little_bytes 4 0 ++ text_ends 0 (map text_bytes column)) ∷ flat_map text_bytes column ∷ []
value_buffers kind column = flat_map (slot_bytes kind) column ∷ []

-- the buffers of a column: its validity, then its values
abbrev pub column_buffers : Kind → List Value → List (List ℕ)
column_buffers kind column = validity_buffer column ∷ value_buffers kind column

-- the values of the column at a place
abbrev pub column_at : ℕ → List (List Value) → List Value
column_at i rows = across values.Null rows i

-- the buffers of all columns of rows
abbrev pub batch_buffers : List Ty → List (List Value) → List (List ℕ)
batch_buffers types rows = flat_map (λ column. column_buffers column.1.kind (column_at column.0 rows)) (enumerate_from 0 types)

-- how many values are null
abbrev pub null_count : List Value → ℕ
null_count column = sum_by (λ value. if is_valid value then 0 else 1) column

-- the number of values and of nulls of each column
abbrev pub batch_nodes : List Ty → List (List Value) → List (ℕ × ℕ)
batch_nodes types rows = map (λ column. (length rows, null_count (column_at column.0 rows))) (enumerate_from 0 types)

-- the buffers one after the other, each filled up to a multiple of 8
abbrev pub body_of : List (List ℕ) → List ℕ
body_of buffers = flat_map filled buffers

-- where each buffer begins in the body, and its length without filling
abbrev pub buffer_places : ℕ → List (List ℕ) → List (ℕ × ℕ)
buffer_places place [] = []
buffer_places place (buffer ∷ buffers) = (place, length buffer) ∷ buffer_places (place + length (filled buffer)) buffers
