-- What is known of a column from its type's tag, its type table and its dictionary (Schema.fbs, `Field`).
use Rattle.std.specs.Prelude.{ℕ, ◌/◌, Bool, true, false, Option, Some, None, Result, Ok, ◌==◌, ◌||◌, ◌&&◌, not, is_some, nat_le, if◌then◌else◌}
use Rattle.std.specs.Int.{w64, cast_signed}
use Rattle.fb_bytes.specs.Reading.{TableAt, table_of, text_of}
use Rattle.sub_types.specs.declared.kind.Kind.TheVariants as kinds
use Rattle.arrow_meta.specs.declared.error.MetaError.{MetaError}
use Rattle.arrow_meta.specs.declared.field.Layout.TheVariants as layouts
use Rattle.arrow_meta.specs.declared.field.Shape.{Shape}
use Rattle.arrow_meta.specs.declared.field.Shape.TheVariants.{Known, Skip}
use Rattle.arrow_meta.specs.declared.read.shape.IntType.{IntType}
use Rattle.arrow_meta.specs.declared.read.shape.Encoding.{Encoding}
use Rattle.arrow_meta.specs.Looked.{looked, number_in, table_in}
use Rattle.sub_types.specs.ResultSteps.{◌>>=◌}

-- a whole number type: its width in bits, and whether it has a sign
unfoldable pub int_in : TableAt → Result IntType MetaError
int_in int = do
  bits ← number_in int 0 4 0
  signed ← number_in int 1 1 0
  Ok (record { bits = bits; signed = not (signed == 0) })

-- an index type, which is a signed one of 32 bits where it is absent
abbrev pub index_type : Option TableAt → Result IntType MetaError
index_type None = Ok (record { bits = 32; signed = true })
index_type (Some int) = int_in int

-- a dictionary's id, and the type of the indices into it
unfoldable pub encoding_of : TableAt → Result Encoding MetaError
encoding_of dictionary = do
  id ← number_in dictionary 0 8 0
  int ← looked (table_of dictionary 1)
  index ← index_type int
  Ok (record { id = cast_signed w64 id; index = index })

-- none where a field has no dictionary
abbrev pub encoding_if : Option TableAt → Result (Option Encoding) MetaError
encoding_if None = Ok None
encoding_if (Some dictionary) = encoding_of dictionary >>= λ encoding. Ok (Some encoding)

unfoldable pub encoding_in : TableAt → Result (Option Encoding) MetaError
encoding_in field = looked (table_of field 4) >>= encoding_if

-- the kind of signed whole numbers of a width
abbrev pub int_shape : IntType → Shape
int_shape int =
    if not int.signed then Skip 2
    else if int.bits == 8 then Known kinds.I8 layouts.Plain
    else if int.bits == 16 then Known kinds.I16 layouts.Plain
    else if int.bits == 32 then Known kinds.I32 layouts.Plain
    else if int.bits == 64 then Known kinds.I64 layouts.Plain
    else Skip 2

-- 128 bits, and 1 to 38 digits, of which at most all stand behind the point
abbrev pub is_decimal : ℕ → ℕ → ℕ → Bool
is_decimal bits precision scale = bits == 128 && nat_le 1 precision && nat_le precision 38 && nat_le scale precision

unfoldable pub decimal_in : TableAt → Result Shape MetaError
decimal_in decimal = do
  precision ← number_in decimal 0 4 0
  scale ← number_in decimal 1 4 0
  bits ← number_in decimal 2 4 128
  Ok (if is_decimal bits precision scale then Known (kinds.Decimal precision scale) layouts.Plain else Skip 2)

-- days
unfoldable pub date_in : TableAt → Result Shape MetaError
date_in date = do
  unit ← number_in date 0 2 1
  Ok (if unit == 0 then Known kinds.Date layouts.Plain else Skip 2)

-- microseconds without a zone
unfoldable pub timestamp_in : TableAt → Result Shape MetaError
timestamp_in timestamp = do
  unit ← number_in timestamp 0 2 0
  zone ← looked (text_of timestamp 1)
  Ok (if unit == 2 && not (is_some zone) then Known kinds.Timestamp layouts.Plain else Skip 2)

-- floating point, time, interval, binary of one size, duration
abbrev pub is_skipped : ℕ → Bool
is_skipped tag = tag == 3 || tag == 9 || tag == 11 || tag == 15 || tag == 18

-- what is known from a type whose table isn't looked at; nothing where its buffers aren't counted
abbrev pub tag_shape : ℕ → Option Shape
tag_shape tag =
    if tag == 4 then Some (Known kinds.Binary layouts.Plain)
    else if tag == 5 then Some (Known kinds.Text layouts.Plain)
    else if tag == 6 then Some (Known kinds.Bool layouts.Plain)
    else if tag == 19 then Some (Known kinds.Binary layouts.Wide)
    else if tag == 20 then Some (Known kinds.Text layouts.Wide)
    else if is_skipped tag then Some (Skip 2)
    else None

-- whole numbers
unfoldable pub number_shape : TableAt → Result Shape MetaError
number_shape int = int_in int >>= λ type. Ok (int_shape type)

-- what is known from the type table of a field, which must be there
abbrev pub by_table : TableAt → (TableAt → Result Shape MetaError) → Result (Option Shape) MetaError
by_table field read = table_in field 3 >>= λ type. read type >>= λ shape. Ok (Some shape)

-- what is known from the type of a field
unfoldable pub type_shape : TableAt → ℕ → Result (Option Shape) MetaError
type_shape field tag =
    if tag == 2 then by_table field number_shape
    else if tag == 7 then by_table field decimal_in
    else if tag == 8 then by_table field date_in
    else if tag == 10 then by_table field timestamp_in
    else Ok (tag_shape tag)

-- 8, 16, 32 or 64 bits
abbrev pub is_index_width : ℕ → Bool
is_index_width bits = bits == 8 || bits == 16 || bits == 32 || bits == 64

-- texts under a dictionary
abbrev pub index_shape : Encoding → Bool → Shape
index_shape encoding wide =
    if is_index_width encoding.index.bits
    then Known kinds.Text (layouts.Index encoding.id (encoding.index.bits / 8) encoding.index.signed wide)
    else Skip 2

-- what is known of a type under a dictionary: texts can be read, other values are skipped
abbrev pub encoded_shape : ℕ → Encoding → Shape
encoded_shape tag encoding =
    if tag == 5 then index_shape encoding false
    else if tag == 20 then index_shape encoding true
    else Skip 2

-- what is known of a column
abbrev pub shape_of : ℕ → Option Shape → Option Encoding → Option Shape
shape_of tag None encoding = None
shape_of tag (Some shape) None = Some shape
shape_of tag (Some shape) (Some encoding) = Some (encoded_shape tag encoding)

unfoldable pub shape_in : TableAt → Result (Option Shape) MetaError
shape_in field = do
  tag ← number_in field 2 1 0
  shape ← type_shape field tag
  encoding ← encoding_in field
  Ok (shape_of tag shape encoding)
