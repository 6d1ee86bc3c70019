-- The bytes of a plan's tree, and when they read back as the tree.
use Rattle.std.specs.Prelude.{◌≡◌, ℕ, zero, suc, ◌^◌, ◌<◌, List, [], Bool, true, FitsSigned, length}
use Rattle.std.specs.Int.{w32, w64}
use Rattle.std.specs.List.{All}
use Rattle.std.specs.Str.{is_utf8}
use Rattle.pb_write.specs.Write.{message_bytes}
use Rattle.plan_scan.specs.declared.shape.Shape.{Shape}
use Rattle.plan_scan.specs.declared.shape.Shape.TheVariants as s
use Rattle.plan_scan.specs.declared.shape.Use.{Use}
use Rattle.plan_scan.specs.declared.shape.Use.TheVariants as uses
use Rattle.plan_scan.specs.Table.{use_of}
use Rattle.plan_raw.specs.declared.plan.PlanTree.{PlanTree}
use Rattle.plan_spell.specs.Nodes.{Node}
use Rattle.plan_spell.specs.Held.{Held, Uint32s, Int32s, Int64s, Truths, PackedUint32s, PackedInt32s, Blocks, Messages, Part, fields_by}
use Rattle.plan_spell.specs.Parts.{parts_of}
use Rattle.plan_spell.specs.Known.{IsKnown}

-- the bytes of a message, where so many levels are left to it and the messages in it; deeper ones are written empty
unfoldable pub spelled_at : ℕ → (shape : Shape) → Node shape → List ℕ
spelled_at zero shape node = []
spelled_at (suc levels) shape node = message_bytes (fields_by (spelled_at levels) (parts_of shape node))

-- the bytes of a plan, whose messages are at most 100 deep
unfoldable pub spelled : PlanTree → List ℕ
spelled tree = spelled_at 100 s.Plan tree

-- texts are UTF-8
abbrev pub IsOfUse : Use → List (List ℕ) → Type 0
IsOfUse uses.Text blocks = All (λ block. is_utf8 block ≡ true) blocks
IsOfUse _ blocks = Unit {0}

-- Numbers are in the ranges of their types, texts are UTF-8, and the messages are as they should be. Of a tree in memory numbers
-- always are.
abbrev pub IsFitting : ((shape : Shape) → Node shape → Type 0) → Use → Held → Type 0
IsFitting inner holds (Uint32s numbers) = All (λ number. number < 2 ^ 32) numbers
IsFitting inner holds (Int32s numbers) = All (FitsSigned w32) numbers
IsFitting inner holds (Int64s numbers) = All (FitsSigned w64) numbers
IsFitting inner holds (Truths truths) = Unit {0}
IsFitting inner holds (PackedUint32s numbers) = All (λ number. number < 2 ^ 32) numbers
IsFitting inner holds (PackedInt32s numbers) = All (FitsSigned w32) numbers
IsFitting inner holds (Blocks blocks) = IsOfUse holds blocks
IsFitting inner holds (Messages shape nodes) = All (inner shape) nodes

abbrev pub HasFitting : ((shape : Shape) → Node shape → Type 0) → Shape → Part → Type 0
HasFitting inner shape part = IsFitting inner (use_of shape part.number) part.held

-- a message of known forms, fitting numbers and texts, with no more than so many levels of messages, its own among them
unfoldable pub IsSpellableAt : ℕ → (shape : Shape) → Node shape → Type 0
IsSpellableAt zero shape node = ⊥
IsSpellableAt (suc levels) shape node = IsKnown shape node × All (HasFitting (IsSpellableAt levels) shape) (parts_of shape node)

-- a plan's tree that reads back from its bytes
pub record IsSpellable (tree : PlanTree) : Type 0 where
  pub fits : IsSpellableAt 100 s.Plan tree
  pub short : length (spelled tree) < 2 ^ 64
