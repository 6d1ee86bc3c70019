-- How objects are laid out as bytes: whole objects with the places that their offsets lead to. An object
-- begins at a multiple of 8, is filled up to one, and its offsets count from their own places, so its
-- bytes are the same wherever it stands.
use Rattle.std.specs.Prelude.{ℕ, zero, suc, ◌+◌, ◌-◌, ◌*◌, ◌/◌, max, List, [], ◌∷◌, ◌++◌, length, replicate, filter, Option, Some, None, ◌==◌, if◌then◌else◌}
use Rattle.byteorder.specs.Endian.{little_bytes}

-- an object with all that it leads to behind it, and the place in these bytes that an offset to it leads to
pub record Laid : Type 0 where
  pub bytes : List ℕ
  pub lead : ℕ

-- what a table holds in a slot: the low bytes of a number, or an offset to an object
pub data Part : Type 0 where
  Number : (slot width value : ℕ) → Part
  Offset : (slot : ℕ) → (object : Laid) → Part

abbrev pub part_slot : Part → ℕ
part_slot (Number slot width value) = slot
part_slot (Offset slot object) = slot

abbrev pub part_width : Part → ℕ
part_width (Number slot width value) = width
part_width (Offset slot object) = 4

-- one more than the last slot
abbrev pub slot_count : List Part → ℕ
slot_count [] = 0
slot_count (p ∷ ps) = max (part_slot p + 1) (slot_count ps)

-- the bytes that the fields take
abbrev pub fields_width : List Part → ℕ
fields_width [] = 0
fields_width (p ∷ ps) = part_width p + fields_width ps

-- the part in a slot
abbrev pub part_at : ℕ → List Part → Option Part
part_at slot [] = None
part_at slot (p ∷ ps) = if part_slot p == slot then Some p else part_at slot ps

-- the least multiple of 8 that isn't below n
unfoldable pub round_up : ℕ → ℕ
round_up n = (n + 7) / 8 * 8

-- filled up with zeros to a multiple of 8
unfoldable pub filled : List ℕ → List ℕ
filled bytes = bytes ++ replicate (round_up (length bytes) - length bytes) 0

-- A field as it stands in a table: a number, or an offset that leads to a place of the table's object.
pub data Cell : Type 0 where
  Value : (slot width value : ℕ) → Cell
  Target : (slot place : ℕ) → Cell

abbrev pub cell_slot : Cell → ℕ
cell_slot (Value slot width value) = slot
cell_slot (Target slot place) = slot

abbrev pub cell_width : Cell → ℕ
cell_width (Value slot width value) = width
cell_width (Target slot place) = 4

-- the fields, where the objects that they lead to stand one after the other from `next` on
abbrev pub cells : ℕ → List Part → List Cell
cells next [] = []
cells next (Number slot width value ∷ ps) = Value slot width value ∷ cells next ps
cells next (Offset slot object ∷ ps) = Target slot (next + object.lead) ∷ cells (next + length object.bytes) ps

-- the objects that the fields lead to, one after the other
abbrev pub behind : List Part → List ℕ
behind [] = []
behind (Number slot width value ∷ ps) = behind ps
behind (Offset slot object ∷ ps) = object.bytes ++ behind ps

abbrev pub of_width : ℕ → List Cell → List Cell
of_width width cs = filter (λ c. cell_width c == width) cs

-- the fields of the first width, then those of the next and so on, those of one width in the order that they have
abbrev pub by_widths : List ℕ → List Cell → List Cell
by_widths [] cs = []
by_widths (width ∷ rest) cs = of_width width cs ++ by_widths rest cs

-- the fields of 8 bytes, then those of 4, of 2 and of 1
abbrev pub by_width : List Cell → List Cell
by_width cs = by_widths (8 ∷ 4 ∷ 2 ∷ 1 ∷ []) cs

-- the bytes of a field that stands at a place; an offset counts from there
abbrev pub cell_bytes : ℕ → Cell → List ℕ
cell_bytes place (Value slot width value) = little_bytes width value
cell_bytes place (Target slot target) = little_bytes 4 (target - place)

-- fields one after the other from a place on
abbrev pub row_bytes : ℕ → List Cell → List ℕ
row_bytes place [] = []
row_bytes place (c ∷ cs) = cell_bytes place c ++ row_bytes (place + cell_width c) cs

-- where the field of a slot stands in a table whose fields begin `from` its start, or 0 where there is none
abbrev pub entry : ℕ → ℕ → List Cell → ℕ
entry slot from [] = 0
entry slot from (c ∷ cs) = if cell_slot c == slot then from else entry slot (from + cell_width c) cs

-- where the fields of the slots below n stand, two bytes each
abbrev pub entries : ℕ → List Cell → List ℕ
entries zero cs = []
entries (suc n) cs = entries n cs ++ little_bytes 2 (entry n 4 cs)

-- a table's vtable: its size, the table's size without filling, and where the fields stand, up to the last slot
unfoldable pub vtable : List Part → List ℕ
vtable parts =
    little_bytes 2 (4 + 2 * slot_count parts)
    ++ (little_bytes 2 (4 + fields_width parts) ++ entries (slot_count parts) (by_width (cells 0 parts)))

-- where a table stands behind its vtable of n slots: the next place that is 4 more than a multiple of 8
unfoldable pub table_place : ℕ → ℕ
table_place n = round_up (2 * n) + 4

-- where the objects begin that a table leads to
unfoldable pub table_end : List Part → ℕ
table_end parts = round_up (table_place (slot_count parts) + 4 + fields_width parts)

-- the vtable, and behind it the table: the distance back to the vtable and then the fields
unfoldable pub table_own : List Part → List Cell → List ℕ
table_own parts fields =
    let place = table_place (slot_count parts) in
    vtable parts ++ (replicate (place - (4 + 2 * slot_count parts)) 0 ++ (little_bytes 4 place ++ row_bytes (place + 4) (by_width fields)))

-- a table, and behind it the objects that its fields lead to
unfoldable pub table_laid : List Part → Laid
table_laid parts =
    record { bytes = filled (table_own parts (cells (table_end parts) parts)) ++ behind parts; lead = table_place (slot_count parts) }

-- offsets that stand from `place` on, where the objects that they lead to stand from `next` on
abbrev pub offsets : ℕ → ℕ → List Laid → List ℕ
offsets place next [] = []
offsets place next (object ∷ rest) =
    little_bytes 4 (next + object.lead - place) ++ offsets (place + 4) (next + length object.bytes) rest

-- the objects one after the other
abbrev pub in_order : List Laid → List ℕ
in_order [] = []
in_order (object ∷ rest) = object.bytes ++ in_order rest

-- a vector of offsets: the count and the offsets, and behind them the objects that they lead to
unfoldable pub tables_laid : List Laid → Laid
tables_laid objects =
    record { bytes = filled (little_bytes 4 (length objects) ++ offsets 4 (round_up (4 + 4 * length objects)) objects) ++ in_order objects; lead = 0 }

-- a vector of structs of one width: four zeros, the count and the structs
unfoldable pub structs_laid : ℕ → List ℕ → Laid
structs_laid width structs =
    record { bytes = filled (replicate 4 0 ++ (little_bytes 4 (length structs / width) ++ structs)); lead = 4 }

-- a text: the count of its bytes, the bytes and a zero
unfoldable pub text_laid : List ℕ → Laid
text_laid text = record { bytes = filled (little_bytes 4 (length text) ++ (text ++ 0 ∷ [])); lead = 0 }

-- a buffer: the offset to its root object, four zeros, and the object
unfoldable pub buffer_of : Laid → List ℕ
buffer_of root = little_bytes 4 (8 + root.lead) ++ (replicate 4 0 ++ root.bytes)
