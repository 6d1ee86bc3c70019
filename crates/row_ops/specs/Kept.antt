-- Columns as contracts see them, and where they are while some of them are taken.
use Rattle.std.specs.Prelude.{ℕ, ◌<◌, List, [], map, false, slice_index_or}
use Rattle.sub_types.specs.declared.kind.Kind.TheVariants as kinds
use Rattle.sub_types.specs.declared.kind.Ty.{Ty}
use Rattle.sub_types.specs.declared.value.Value.{Value}
use Rattle.batch.specs.declared.column.Column.{Column}
use Rattle.batch.specs.ColumnValues.{values_of}
use Rattle.row_ops.specs.declared.keeping.Slot.{Slot}
use Rattle.row_ops.specs.declared.keeping.Slot.TheVariants as slots

pub record Shown : Type 0 where
  pub ty : Ty
  pub values : List Value

-- a column by its type and values
abbrev pub shown : Column → Shown
shown column = record { ty = column.ty; values = values_of column.values }

-- no values
abbrev pub nothing : Shown
nothing = record { ty = record { kind = kinds.Bool; nullable = false }; values = [] }

-- the column of a slot, which may be among those that were taken
abbrev pub shown_slot : List Column → Slot → Shown
shown_slot kept (slots.Here column) = shown column
shown_slot kept (slots.Taken place) = slice_index_or (map shown kept) place nothing

-- a column that was taken is among the first so many
abbrev pub IsWithin : ℕ → Slot → Type 0
IsWithin len (slots.Here column) = Unit {0}
IsWithin len (slots.Taken place) = place < len
