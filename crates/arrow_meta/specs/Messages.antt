-- The footer and the messages of an Arrow file as FlatBuffers objects (Arrow's Schema.fbs, Message.fbs and File.fbs).
use Rattle.std.specs.Prelude.{ℕ, List, [], ◌∷◌, ◌++◌, replicate, if◌then◌else◌}
use Rattle.std.specs.List.{flat_map}
use Rattle.byteorder.specs.Endian.{little_bytes}
use Rattle.fb_bytes.specs.Layout.{Laid, Number, Offset, table_laid, tables_laid, structs_laid, text_laid}
use Rattle.sub_types.specs.declared.kind.Kind.{Kind}
use Rattle.sub_types.specs.declared.kind.Kind.TheVariants as kinds
use Rattle.sub_types.specs.declared.kind.Ty.{Ty}

-- metadata version V5
abbrev pub VERSION : ℕ
VERSION = 4

-- the tag of a kind's type in the union Type
abbrev pub type_tag : Kind → ℕ
type_tag kinds.Bool = 6
type_tag kinds.I8 = 2
type_tag kinds.I16 = 2
type_tag kinds.I32 = 2
type_tag kinds.I64 = 2
type_tag kinds.Text = 5
type_tag kinds.Binary = 4
type_tag kinds.Date = 8
type_tag kinds.Timestamp = 10
type_tag (kinds.Decimal precision scale) = 7

-- a signed whole number of so many bits
abbrev pub int_laid : ℕ → Laid
int_laid bits = table_laid (Number 0 4 bits ∷ Number 1 1 1 ∷ [])

-- the type table of a kind
abbrev pub type_laid : Kind → Laid
type_laid kinds.Bool = table_laid []
type_laid kinds.I8 = int_laid 8
type_laid kinds.I16 = int_laid 16
type_laid kinds.I32 = int_laid 32
type_laid kinds.I64 = int_laid 64
type_laid kinds.Text = table_laid []
type_laid kinds.Binary = table_laid []
type_laid kinds.Date = table_laid (Number 0 2 0 ∷ [])
type_laid kinds.Timestamp = table_laid (Number 0 2 2 ∷ [])
type_laid (kinds.Decimal precision scale) = table_laid (Number 0 4 precision ∷ Number 1 4 scale ∷ Number 2 4 128 ∷ [])

-- a field: its name, whether it is nullable, its type, and no children
abbrev pub field_laid : List ℕ → Ty → Laid
field_laid name ty = table_laid (
    Offset 0 (text_laid name) ∷ Number 1 1 (if ty.nullable then 1 else 0) ∷ Number 2 1 (type_tag ty.kind)
    ∷ Offset 3 (type_laid ty.kind) ∷ Offset 5 (tables_laid []) ∷ [])

abbrev pub fields_laid : List (List ℕ) → List Ty → List Laid
fields_laid (name ∷ names) (ty ∷ types) = field_laid name ty ∷ fields_laid names types
fields_laid _ _ = []

-- a little-endian schema
abbrev pub schema_laid : List (List ℕ) → List Ty → Laid
schema_laid names types = table_laid (Number 0 2 0 ∷ Offset 1 (tables_laid (fields_laid names types)) ∷ [])

-- a message with its header's tag in the union MessageHeader, and the length of its body
abbrev pub message_laid : ℕ → Laid → ℕ → Laid
message_laid tag header body_len = table_laid (Number 0 2 VERSION ∷ Number 1 1 tag ∷ Offset 2 header ∷ Number 3 8 body_len ∷ [])

abbrev pub schema_message : List (List ℕ) → List Ty → Laid
schema_message names types = message_laid 1 (schema_laid names types) 0

-- two numbers of eight bytes
abbrev pub pair_bytes : ℕ × ℕ → List ℕ
pair_bytes pair = little_bytes 8 pair.0 ++ little_bytes 8 pair.1

-- a record batch of so many rows: the length and the nulls of each column, the place and the length of each buffer
abbrev pub record_laid : ℕ → List (ℕ × ℕ) → List (ℕ × ℕ) → Laid
record_laid rows nodes buffers = table_laid (
    Number 0 8 rows ∷ Offset 1 (structs_laid 16 (flat_map pair_bytes nodes)) ∷ Offset 2 (structs_laid 16 (flat_map pair_bytes buffers)) ∷ [])

abbrev pub record_message : ℕ → List (ℕ × ℕ) → List (ℕ × ℕ) → ℕ → Laid
record_message rows nodes buffers body_len = message_laid 3 (record_laid rows nodes buffers) body_len

-- where a record batch message stands, and the lengths of its metadata and body
pub record Place : Type 0 where
  pub offset : ℕ
  pub meta_len : ℕ
  pub body_len : ℕ

abbrev pub block_bytes : Place → List ℕ
block_bytes block = little_bytes 8 block.offset ++ little_bytes 4 block.meta_len ++ replicate 4 0 ++ little_bytes 8 block.body_len

-- the footer: the schema, no dictionaries, and where the record batches stand
abbrev pub footer_laid : List (List ℕ) → List Ty → List Place → Laid
footer_laid names types blocks = table_laid (
    Number 0 2 VERSION ∷ Offset 1 (schema_laid names types) ∷ Offset 2 (structs_laid 24 []) ∷ Offset 3 (structs_laid 24 (flat_map block_bytes blocks)) ∷ [])
