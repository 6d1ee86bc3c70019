-- The laws of the layout: what is laid out reads back, wherever it stands, and how long it is.
use Rattle.std.specs.Prelude.{◌≡◌, ℕ, ◌+◌, ◌*◌, ◌^◌, ◌<◌, ◌≤◌, List, length, Some, None, Ok}
use Rattle.fb_bytes.specs.Layout.{Laid, Part, Offset, behind, slot_count, fields_width, in_order, table_laid, tables_laid, structs_laid, text_laid, buffer_of}
use Rattle.fb_bytes.specs.Object.{AreStructs}
use Rattle.fb_bytes.specs.Reading.{TableAt, VectorAt, root_of, scalar_of, table_of, vector_of, text_of, table_item}
use Rattle.fb_bytes.specs.ReadBack.{IsNear, AreNear, AreParts, ReadsSlot, ReadsItem, IsTableOf, IsTablesOf, IsStructsOf}

-- the buffer of a table reads back as a table with its parts
abbrev pub RootReadsBack : Type 0
RootReadsBack =
    (parts : List Part) → AreParts 0 parts → length (buffer_of (table_laid parts)) < 2 ^ 31
    → (root : TableAt) × (root_of (buffer_of (table_laid parts)) ≡ Ok root) × IsTableOf (buffer_of (table_laid parts)) parts root

-- a slot that leads to a table reads back as one with its parts
abbrev pub TableReadsBack : Type 0
TableReadsBack =
    (t : TableAt) (slot s : ℕ) (parts : List Part) → length t.bytes < 2 ^ 31 → AreParts 0 parts → ReadsSlot t slot (Some (Offset s (table_laid parts)))
    → (table : TableAt) × (table_of t slot ≡ Ok (Some table)) × IsTableOf t.bytes parts table

-- a slot that leads to a vector of offsets reads back as one with these objects
abbrev pub TablesReadBack : Type 0
TablesReadBack =
    (t : TableAt) (slot s : ℕ) (objects : List Laid) → length t.bytes < 2 ^ 31 → AreNear objects → ReadsSlot t slot (Some (Offset s (tables_laid objects)))
    → (vector : VectorAt) × (vector_of t slot 4 ≡ Ok (Some vector)) × IsTablesOf t.bytes objects vector

-- an element of a vector of offsets that leads to a table reads back as one with its parts
abbrev pub ItemReadsBack : Type 0
ItemReadsBack =
    (v : VectorAt) (i : ℕ) (parts : List Part) → length v.bytes < 2 ^ 31 → AreParts 0 parts → ReadsItem v i (Some (table_laid parts))
    → (table : TableAt) × (table_item v i ≡ Ok table) × IsTableOf v.bytes parts table

-- a slot that leads to a vector of structs reads back as one with these structs
abbrev pub StructsReadBack : Type 0
StructsReadBack =
    (t : TableAt) (slot s width : ℕ) (structs : List ℕ) → length t.bytes < 2 ^ 31 → AreStructs width structs → ReadsSlot t slot (Some (Offset s (structs_laid width structs)))
    → (vector : VectorAt) × (vector_of t slot width ≡ Ok (Some vector)) × IsStructsOf t.bytes width structs vector

-- a slot that leads to a text reads back as this text
abbrev pub TextReadsBack : Type 0
TextReadsBack =
    (t : TableAt) (slot s : ℕ) (text : List ℕ) → length t.bytes < 2 ^ 31 → ReadsSlot t slot (Some (Offset s (text_laid text)))
    → text_of t slot ≡ Ok (Some text)

-- an absent slot reads as none
pub record IsAbsent (t : TableAt) (slot : ℕ) : Type 0 where
  pub scalar : (width : ℕ) → scalar_of t slot width ≡ Ok None
  pub table : table_of t slot ≡ Ok None
  pub vector : (width : ℕ) → vector_of t slot width ≡ Ok None
  pub text : text_of t slot ≡ Ok None

abbrev pub AbsenceReadsBack : Type 0
AbsenceReadsBack = (t : TableAt) (slot : ℕ) → ReadsSlot t slot None → IsAbsent t slot

-- what offsets lead to is near
pub record LaidIsNear : Type 0 where
  pub table : (parts : List Part) → AreParts 0 parts → IsNear (table_laid parts)
  pub tables : (objects : List Laid) → IsNear (tables_laid objects)
  pub structs : (width : ℕ) (structs : List ℕ) → IsNear (structs_laid width structs)
  pub text : (text : List ℕ) → IsNear (text_laid text)

-- how long objects and buffers are
pub record LaidLengths : Type 0 where
  pub buffer : (root : Laid) → length (buffer_of root) ≡ 8 + length root.bytes
  pub table : (parts : List Part) → AreParts 0 parts → length (table_laid parts).bytes ≤ 2 * slot_count parts + fields_width parts + 22 + length (behind parts)
  pub tables : (objects : List Laid) → length (tables_laid objects).bytes ≤ 4 * length objects + 11 + length (in_order objects)
  pub structs : (width : ℕ) (structs : List ℕ) → length (structs_laid width structs).bytes ≤ length structs + 15
  pub text : (text : List ℕ) → length (text_laid text).bytes ≤ length text + 12
