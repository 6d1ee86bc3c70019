-- What an object is laid out as, and which objects can be laid out.
use Rattle.std.specs.Prelude.{◌≡◌, ◌⊎◌, ℕ, ◌+◌, ◌%◌, ◌<◌, ◌≤◌, List, [], ◌∷◌, length, map}
use Rattle.fb_bytes.specs.declared.object.FbField.{FbField, Scalar, Child}
use Rattle.fb_bytes.specs.declared.object.FbObject.{FbObject, Table', Tables', Structs, Text, Row_of-FbField, end_of-FbField, more_of-FbField, Row_of-FbObject, end_of-FbObject, more_of-FbObject}
use Rattle.fb_bytes.specs.Layout.{Laid, Part, Number, Offset, part_slot, table_laid, tables_laid, structs_laid, text_laid, buffer_of}

abbrev mutual
  -- the object with all that it leads to
  pub laid : FbObject → Laid
  laid (Table' shape fields) = table_laid (parts_in fields)
  laid (Tables' shape objects) = tables_laid (laid_in objects)
  laid (Structs width bytes) = structs_laid width bytes
  laid (Text bytes) = text_laid bytes

  pub part_of : FbField → Part
  part_of (Scalar slot width value) = Number slot width value
  part_of (Child slot object) = Offset slot (laid object)

  pub parts_in : {m : _} → Row_of-FbField m → List Part
  parts_in end_of-FbField = []
  parts_in (more_of-FbField field rest) = part_of field ∷ parts_in rest

  pub laid_in : {m : _} → Row_of-FbObject m → List Laid
  laid_in end_of-FbObject = []
  laid_in (more_of-FbObject object rest) = laid object ∷ laid_in rest

-- the parts of a table with these fields
abbrev pub parts_of : List FbField → List Part
parts_of fields = map part_of fields

abbrev pub laid_each : List FbObject → List Laid
laid_each objects = map laid objects

-- the buffer of a root object
abbrev pub buffer : FbObject → List ℕ
buffer root = buffer_of (laid root)

abbrev pub IsTable : FbObject → Type 0
IsTable (Table' shape fields) = Unit {0}
IsTable (Tables' shape objects) = ⊥
IsTable (Structs width bytes) = ⊥
IsTable (Text bytes) = ⊥

-- the slots rise from `low` on, and are below 64
abbrev pub HasRisingSlots : ℕ → List Part → Type 0
HasRisingSlots low [] = Unit {0}
HasRisingSlots low (p ∷ ps) = (low ≤ part_slot p) × (part_slot p < 64) × HasRisingSlots (part_slot p + 1) ps

-- 1, 2, 4 or 8 bytes
abbrev pub IsWidth : ℕ → Type 0
IsWidth width = (width ≡ 1) ⊎ (width ≡ 2) ⊎ (width ≡ 4) ⊎ (width ≡ 8)

-- the bytes are whole structs of a width that is a positive multiple of 8
abbrev pub AreStructs : ℕ → List ℕ → Type 0
AreStructs width bytes = (0 < width) × (width % 8 ≡ 0) × (length bytes % width ≡ 0)

abbrev mutual
  -- the object can be laid out: slots, widths and kinds are as they must be, at every depth
  pub IsSound : FbObject → Type 0
  IsSound (Table' shape fields) = HasRisingSlots 0 (parts_in fields) × AllSoundFields fields
  IsSound (Tables' shape objects) = AllSoundTables objects
  IsSound (Structs width bytes) = AreStructs width bytes
  IsSound (Text bytes) = Unit {0}

  pub IsSoundField : FbField → Type 0
  IsSoundField (Scalar slot width value) = IsWidth width
  IsSoundField (Child slot object) = IsSound object

  pub AllSoundFields : {m : _} → Row_of-FbField m → Type 0
  AllSoundFields end_of-FbField = Unit {0}
  AllSoundFields (more_of-FbField field rest) = IsSoundField field × AllSoundFields rest

  pub AllSoundTables : {m : _} → Row_of-FbObject m → Type 0
  AllSoundTables end_of-FbObject = Unit {0}
  AllSoundTables (more_of-FbObject object rest) = IsTable object × IsSound object × AllSoundTables rest

-- fields that can be laid out
abbrev pub AreSoundFields : List FbField → Type 0
AreSoundFields [] = Unit {0}
AreSoundFields (field ∷ rest) = IsSoundField field × AreSoundFields rest

-- a table that can be laid out
abbrev pub IsSoundTable : FbObject → Type 0
IsSoundTable object = IsTable object × IsSound object
