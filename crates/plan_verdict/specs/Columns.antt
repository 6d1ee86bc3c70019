-- The columns of relations: a read's schema and projection, and what a relation emits (Substrait `NamedStruct`, `MaskExpression`
-- and `RelCommon`).
use Rattle.std.specs.Prelude.{ℕ, ℤ, pos, List, [], Option, Some, None, Result, Ok, Err, ◌==◌, map, length, nat_le, nat_lt, if◌then◌else◌}
use Rattle.std.specs.List.{range_with_len}
use Rattle.std.specs.Option.{ok_or, option_map_or}
use Rattle.sub_types.specs.ResultSteps.{◌>>=◌, collect}
use Rattle.sub_types.specs.declared.kind.Ty.{Ty}
use Rattle.plan_leaves.specs.declared.common.RelCommon.{RelCommon}
use Rattle.plan_leaves.specs.declared.common.RelCommon.TheVariants as commons
use Rattle.plan_leaves.specs.declared.mask.MaskExpression.{MaskExpression}
use Rattle.plan_leaves.specs.declared.mask.MaskItem.{MaskItem}
use Rattle.plan_leaves.specs.declared.schema.NamedStruct.{NamedStruct}
use Rattle.plan_leaves.specs.declared.types.StructType.{StructType}
use Rattle.plan_typed.specs.declared.rel.Op.{Op}
use Rattle.plan_typed.specs.declared.rel.Rel.{Rel, roll-Rel}
pub use Rattle.well_typed.specs.Columns.{MAX_COLUMNS, columns_at}
use Rattle.plan_verdict.specs.declared.rule.Rule.{Rule}
use Rattle.plan_verdict.specs.declared.rule.Rule.TheVariants as rules
use Rattle.plan_verdict.specs.Types.{type_in}

-- the types of a struct with as many names
abbrev pub types_in : List (List ℕ) → StructType → Result (List Ty) Rule
types_in names struct = if length names == length struct.types then collect (map type_in struct.types) else Err rules.BadNames

-- the names and types of a table's columns
abbrev pub schema_in : Option NamedStruct → Result (List (List ℕ) × List Ty) Rule
schema_in schema = do
  named ← ok_or schema rules.MissingField
  struct ← ok_or named.struct_ rules.MissingField
  types ← types_in named.names struct
  Ok (named.names, types)

-- the place of a column of so many
abbrev pub place_in : ℕ → ℤ → Option ℕ
place_in count (pos place) = if nat_lt place count then Some place else None
place_in count _ = None

-- StructItem: a column, and nothing of what is inside it
abbrev pub mask_item : ℕ → MaskItem → Result ℕ Rule
mask_item count item = if item.child then Err rules.UnsupportedForm else ok_or (place_in count item.field) rules.BadReference

-- the columns that a projection names; one without a selection names none
abbrev pub mask_items : MaskExpression → List MaskItem
mask_items mask = option_map_or (λ select. select.struct_items) mask.select []

-- the places of the columns that are read, of so many: the projection's in its order, or all
abbrev pub mask_in : ℕ → Option MaskExpression → Result (List ℕ) Rule
mask_in count None = Ok (range_with_len 0 count)
mask_in count (Some mask) = collect (map (mask_item count) (mask_items mask))

-- the places of an emit mapping, of so many columns
abbrev pub places_in : ℕ → List ℤ → Result (List ℕ) Rule
places_in count mapping = do
  places ← collect (map (λ field. ok_or (place_in count field) rules.BadMapping) mapping)
  if nat_le (length mapping) MAX_COLUMNS then Ok places else Err rules.TooMany

-- the places of the columns that are emitted, of so many: those that are named, or all
abbrev pub emit_in : ℕ → Option RelCommon → Result (List ℕ) Rule
emit_in count (Some (commons.Emit mapping)) = places_in count mapping
emit_in count _ = Ok (range_with_len 0 count)

-- what is emitted of these columns, which aren't too many
abbrev pub emitted : Option RelCommon → List Ty → Result (List ℕ) Rule
emitted common direct = if nat_le (length direct) MAX_COLUMNS then emit_in (length direct) common else Err rules.TooMany

-- a relation with this number, of these columns
abbrev pub finished_in : ℕ → Option RelCommon → Op → List Ty → Result Rel Rule
finished_in number common op direct = do
  emit ← emitted common direct
  Ok (roll-Rel (record { number = number; op = op; emit = emit; columns = columns_at direct emit }))
