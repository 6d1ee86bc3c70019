-- What is laid out reads back: what the bytes of an object read as, wherever it stands in other bytes.
use Rattle.std.specs.Prelude.{◌≡◌, ℕ, ◌+◌, ◌*◌, ◌%◌, ◌^◌, ◌<◌, ◌≤◌, List, [], ◌∷◌, ◌++◌, length, take, drop, slice_get, Option, Some, None, Ok}
use Rattle.std.specs.List.{All}
use Rattle.fb_bytes.specs.declared.object.FbField.{FbField, Scalar, Child}
use Rattle.fb_bytes.specs.declared.object.FbObject.{FbObject, Table', Tables', Structs, Text, Row_of-FbField, end_of-FbField, more_of-FbField, Row_of-FbObject, end_of-FbObject, more_of-FbObject}
use Rattle.fb_bytes.specs.Layout.{Laid, Part, Number, Offset, part_at}
use Rattle.fb_bytes.specs.Object.{IsWidth, parts_in}
use Rattle.fb_bytes.specs.Reading.{TableAt, VectorAt, offset_at, table_at, vector_at, text_at, field_of, scalar_of, reference_of, item_of}

-- the object stands in the bytes, and what leads to it leads to this place
pub record LeadsTo (bytes : List ℕ) (place : ℕ) (object : Laid) : Type 0 where
  pub front : List ℕ
  pub back : List ℕ
  pub stands : bytes ≡ front ++ (object.bytes ++ back)
  pub leads : place ≡ length front + object.lead

-- an offset of 32 bits can lead to the object
abbrev pub IsNear : Laid → Type 0
IsNear object = object.lead < 2 ^ 31

-- a table can hold the parts: their slots rise from `low` on and are below 64, numbers have 1, 2, 4 or 8 bytes
abbrev pub AreParts : ℕ → List Part → Type 0
AreParts low [] = Unit {0}
AreParts low (Number slot width value ∷ ps) = (low ≤ slot) × (slot < 64) × IsWidth width × AreParts (slot + 1) ps
AreParts low (Offset slot object ∷ ps) = (low ≤ slot) × (slot < 64) × IsNear object × AreParts (slot + 1) ps

-- a slot reads as a part, or as absent
abbrev pub ReadsSlot : TableAt → ℕ → Option Part → Type 0
ReadsSlot t slot None = field_of t slot ≡ None
ReadsSlot t slot (Some (Number s width value)) = scalar_of t slot width ≡ Ok (Some (value % 256 ^ width))
ReadsSlot t slot (Some (Offset s object)) =
    (place : ℕ) × (reference_of t slot ≡ Ok (Some place)) × LeadsTo t.bytes place object

-- a table of these bytes has these parts, slot by slot
pub record IsTableOf (bytes : List ℕ) (parts : List Part) (table : TableAt) : Type 0 where
  pub same : table.bytes ≡ bytes
  pub slots : (slot : ℕ) → ReadsSlot table slot (part_at slot parts)

-- a table with these parts is read at this place
abbrev pub ReadsTable : List ℕ → ℕ → List Part → Type 0
ReadsTable bytes place parts = (table : TableAt) × (table_at bytes place ≡ Ok table) × IsTableOf bytes parts table

-- an element of a vector of offsets leads to the object
abbrev pub ReadsItem : VectorAt → ℕ → Option Laid → Type 0
ReadsItem v i None = Unit {0}
ReadsItem v i (Some object) = (place : ℕ) × (offset_at v.bytes (v.start + 4 * i) ≡ Ok place) × LeadsTo v.bytes place object

-- a vector of these bytes has offsets to these objects
pub record IsTablesOf (bytes : List ℕ) (objects : List Laid) (vector : VectorAt) : Type 0 where
  pub same : vector.bytes ≡ bytes
  pub count : vector.count ≡ length objects
  pub items : (i : ℕ) → ReadsItem vector i (slice_get objects i)

-- a vector of offsets to these objects is read at this place
abbrev pub ReadsTables : List ℕ → ℕ → List Laid → Type 0
ReadsTables bytes place objects = (vector : VectorAt) × (vector_at bytes 4 place ≡ Ok vector) × IsTablesOf bytes objects vector

-- a vector of these bytes has these structs, one after the other
pub record IsStructsOf (bytes : List ℕ) (width : ℕ) (structs : List ℕ) (vector : VectorAt) : Type 0 where
  pub same : vector.bytes ≡ bytes
  pub count : width * vector.count ≡ length structs
  pub items : (i : ℕ) → i < vector.count → item_of vector i ≡ take width (drop (width * i) structs)

-- a vector of these structs is read at this place
abbrev pub ReadsStructs : List ℕ → ℕ → ℕ → List ℕ → Type 0
ReadsStructs bytes place width structs = (vector : VectorAt) × (vector_at bytes width place ≡ Ok vector) × IsStructsOf bytes width structs vector

-- an offset of 32 bits can lead to each of the objects
abbrev pub AreNear : List Laid → Type 0
AreNear objects = All IsNear objects

abbrev mutual
  -- what is read at this place is the object, with all that it leads to
  pub ReadsObject : List ℕ → ℕ → FbObject → Type 0
  ReadsObject bytes place (Table' shape fields) =
      (table : TableAt) × (table_at bytes place ≡ Ok table) × ReadsFields bytes table fields
      × ((slot : ℕ) → part_at slot (parts_in fields) ≡ None → field_of table slot ≡ None)
  ReadsObject bytes place (Tables' shape objects) =
      (vector : VectorAt) × (vector_at bytes 4 place ≡ Ok vector) × ReadsItems bytes vector 0 objects
  ReadsObject bytes place (Structs width structs) = ReadsStructs bytes place width structs
  ReadsObject bytes place (Text text) = text_at bytes place ≡ Ok text

  pub ReadsField : List ℕ → TableAt → FbField → Type 0
  ReadsField bytes table (Scalar slot width value) = scalar_of table slot width ≡ Ok (Some (value % 256 ^ width))
  ReadsField bytes table (Child slot object) =
      (place : ℕ) × (reference_of table slot ≡ Ok (Some place)) × ReadsObject bytes place object

  pub ReadsFields : {m : _} → List ℕ → TableAt → Row_of-FbField m → Type 0
  ReadsFields bytes table end_of-FbField = Unit {0}
  ReadsFields bytes table (more_of-FbField field rest) = ReadsField bytes table field × ReadsFields bytes table rest

  -- the elements from the one at i on, which are the last
  pub ReadsItems : {m : _} → List ℕ → VectorAt → ℕ → Row_of-FbObject m → Type 0
  ReadsItems bytes vector i end_of-FbObject = vector.count ≡ i
  ReadsItems bytes vector i (more_of-FbObject object rest) =
      ((place : ℕ) × (offset_at bytes (vector.start + 4 * i) ≡ Ok place) × ReadsObject bytes place object)
      × ReadsItems bytes vector (i + 1) rest

-- the offset at 0 leads to the root object, with all that it leads to
abbrev pub ReadsBuffer : List ℕ → FbObject → Type 0
ReadsBuffer bytes root = (place : ℕ) × (offset_at bytes 0 ≡ Ok place) × ReadsObject bytes place root
