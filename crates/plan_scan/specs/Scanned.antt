-- A message of a readable plan, as contracts see it.
use Rattle.std.specs.Prelude.{◌≡◌, ℕ, zero, suc, ◌+◌, ◌&&◌, List, [], ◌∷◌, Bool, true, false, is_some, Option, Some, None}
use Rattle.std.specs.List.{list_all}
use Rattle.std.specs.Str.{is_utf8}
use Rattle.pb_wire.specs.Records.{Varint, Eight, Bytes, Four}
use Rattle.pb_wire.specs.Payloads.{Field, fields_of, is_whole, packed_numbers}
use Rattle.plan_scan.specs.declared.shape.Shape.{Shape}
use Rattle.plan_scan.specs.declared.shape.Use.{Use}
use Rattle.plan_scan.specs.declared.shape.Use.TheVariants as uses
use Rattle.plan_scan.specs.Table.{use_of}

-- a message: its shape, how many levels of messages may lie below it, and its payloads one after the other
pub record Scanned : Type 0 where
  pub shape : Shape
  pub below : ℕ
  pub bytes : List ℕ

-- the messages of a field that are left: their shape, the levels below the message that has them, and their payloads
pub record Left : Type 0 where
  pub shape : Shape
  pub above : ℕ
  pub blocks : List (List ℕ)

-- the first of the messages that were left is given, one level further down
abbrev pub IsNextChild : Left → Left → Option Scanned → Type 0
IsNextChild old new None = (old.blocks ≡ []) × (new ≡ old)
IsNextChild old new (Some child) =
    (child.shape ≡ old.shape) × (child.below + 1 ≡ old.above) × (old.blocks ≡ child.bytes ∷ new.blocks) × (new.shape ≡ old.shape) × (new.above ≡ old.above)

-- a block of this use has no flaw
abbrev pub block_well : (Shape → List ℕ → Bool) → Use → List ℕ → Bool
block_well message uses.Unnamed bytes = true
block_well message uses.Number bytes = true
block_well message uses.Numbers bytes = is_some (packed_numbers bytes)
block_well message uses.Text bytes = is_utf8 bytes
block_well message uses.Bytes bytes = true
block_well message (uses.Message shape) bytes = message shape bytes

-- a record of a message has no flaw
abbrev pub field_well : (Shape → List ℕ → Bool) → Shape → Field → Bool
field_well message shape field = elim field.content [
  | Varint value ↦ true
  | Eight value ↦ true
  | Bytes bytes ↦ block_well message (use_of shape field.number) bytes
  | Four value ↦ true
]

-- a message has no flaw, where so many levels are left to it and the messages in it
unfoldable pub is_readable : ℕ → Shape → List ℕ → Bool
is_readable zero shape bytes = false
is_readable (suc levels) shape bytes = is_whole bytes && list_all (field_well (is_readable levels) shape) (fields_of bytes)
