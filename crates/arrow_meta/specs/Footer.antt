-- What a footer says (Arrow's File.fbs and Schema.fbs).
use Rattle.std.specs.Prelude.{ℕ, suc, List, [], ◌∷◌, Bool, Option, Some, None, Result, Ok, Err, map, drop, unwrap_or, not, ◌==◌}
use Rattle.std.specs.List.{range_with_len}
use Rattle.std.specs.Int.{w32, w64, cast_signed}
use Rattle.byteorder.specs.Endian.{little_number}
use Rattle.fb_bytes.specs.Reading.{TableAt, VectorAt, root_of, text_of, vector_of, item_of, table_item}
use Rattle.arrow_meta.specs.declared.error.MetaError.{MetaError}
use Rattle.arrow_meta.specs.declared.error.MetaError.TheVariants.{Unsupported}
use Rattle.arrow_meta.specs.declared.field.FieldMeta.{FieldMeta}
use Rattle.arrow_meta.specs.declared.field.Shape.{Shape}
use Rattle.arrow_meta.specs.declared.meta.Block.{Block}
use Rattle.arrow_meta.specs.Looked.{looked, when, number_in, table_in, is_version}
use Rattle.sub_types.specs.ResultSteps.{◌>>=◌, collect}
use Rattle.arrow_meta.specs.Shapes.{shape_in}

-- a field of a schema, whose type may be one whose buffers aren't counted
pub record Field : Type 0 where
  pub name : List ℕ
  pub nullable : Bool
  pub shape : Option Shape

-- an absent name is empty
unfoldable pub field_in : TableAt → Result Field MetaError
field_in field = do
  name ← looked (text_of field 0)
  nullable ← number_in field 1 1 0
  shape ← shape_in field
  Ok (record { name = unwrap_or name []; nullable = not (nullable == 0); shape = shape })

-- what each element of a vector says, none where the vector is absent
abbrev pub each_of : {A : Type 0} → (VectorAt → ℕ → A) → Option VectorAt → List A
each_of read None = []
each_of read (Some vector) = map (read vector) (range_with_len 0 vector.count)

-- the field that an element leads to
unfoldable pub field_at : VectorAt → ℕ → Result Field MetaError
field_at vector i = looked (table_item vector i) >>= field_in

-- the fields of a little-endian schema
unfoldable pub fields_in : TableAt → Result (List Field) MetaError
fields_in schema = do
  endianness ← number_in schema 0 2 0
  fields ← when (endianness == 0) (looked (vector_of schema 1 4))
  collect (each_of field_at fields)

-- a block's 24 bytes: offset, length of the metadata, four bytes that say nothing, length of the body
abbrev pub block_in : List ℕ → Block
block_in bytes = record {
  offset = cast_signed w64 (little_number 8 bytes);
  meta_len = cast_signed w32 (little_number 4 (drop 8 bytes));
  body_len = cast_signed w64 (little_number 8 (drop 16 bytes));
}

unfoldable pub block_at : VectorAt → ℕ → Block
block_at vector i = block_in (item_of vector i)

-- the blocks in a slot, none where it is absent
unfoldable pub blocks_in : TableAt → ℕ → Result (List Block) MetaError
blocks_in footer slot = looked (vector_of footer slot 24) >>= λ blocks. Ok (each_of block_at blocks)

-- the columns, unless one from the column i on has a type whose buffers aren't counted
abbrev pub columns_from : ℕ → List Field → Result (List FieldMeta) MetaError
columns_from i [] = Ok []
columns_from i (field ∷ fields) = elim field.shape [
  | None ↦ Err (Unsupported i)
  | Some shape ↦ columns_from (suc i) fields >>= λ columns. Ok (record { name = field.name; nullable = field.nullable; shape = shape } ∷ columns)
]

-- the columns, the blocks of the dictionaries and those of the record batches
pub record Footer : Type 0 where
  pub columns : List FieldMeta
  pub dictionaries : List Block
  pub records : List Block

-- what a footer says; that it can't be read comes before a type that isn't supported
unfoldable pub footer_in : List ℕ → Result Footer MetaError
footer_in bytes = do
  footer ← looked (root_of bytes)
  version ← number_in footer 0 2 0
  schema ← when (is_version version) (table_in footer 1)
  fields ← fields_in schema
  dictionaries ← blocks_in footer 2
  records ← blocks_in footer 3
  columns ← columns_from 0 fields
  Ok (record { columns = columns; dictionaries = dictionaries; records = records })
