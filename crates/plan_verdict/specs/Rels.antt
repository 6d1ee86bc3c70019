-- The checks of relations but for aggregates (Substrait `Rel`): the inputs, and then what is the relation's own, in order.
use Rattle.std.specs.Prelude.{ℕ, ℤ, List, ◌++◌, Bool, true, false, Option, Some, None, ◌==◌, map, length, if◌then◌else◌}
use Rattle.std.specs.Option.{ok_or}
use Rattle.sub_types.specs.declared.kind.Ty.{Ty}
use Rattle.plan_leaves.specs.declared.common.RelCommon.{RelCommon}
use Rattle.plan_leaves.specs.declared.mask.MaskExpression.{MaskExpression}
use Rattle.plan_leaves.specs.declared.schema.NamedStruct.{NamedStruct}
use Rattle.plan_raw.specs.declared.aggregate.SortField.{SortField-F}
use Rattle.plan_raw.specs.declared.rel.RawCount.{RawCount-F}
use Rattle.plan_raw.specs.declared.rel.RawOffset.{RawOffset-F}
use Rattle.plan_typed.specs.declared.expr.Expr.{Expr}
use Rattle.plan_typed.specs.declared.rel.JoinKind.{JoinKind}
use Rattle.plan_typed.specs.declared.rel.JoinKind.TheVariants as joins
use Rattle.plan_typed.specs.declared.rel.Op.TheVariants as ops
use Rattle.plan_typed.specs.declared.rel.Rel.{Rel}
use Rattle.plan_typed.specs.declared.rel.SortKey.{SortKey}
use Rattle.plan_typed.specs.declared.rel.Source.{Source}
use Rattle.plan_typed.specs.Types.{ty_of, columns_of}
pub use Rattle.well_typed.specs.Columns.{nullable, join_columns}
use Rattle.plan_verdict.specs.declared.rule.Rule.TheVariants as rules
use Rattle.plan_verdict.specs.Checking.{Checking, ◌>>=◌, accept, part, in_order}
use Rattle.plan_verdict.specs.Exprs.{condition, each_in, required}
use Rattle.plan_verdict.specs.Meaning.{Scope, Expression, Checked}
use Rattle.plan_verdict.specs.Amounts.{amount_of, amounts_in}
use Rattle.plan_verdict.specs.Columns.{schema_in, mask_in, columns_at}
use Rattle.plan_verdict.specs.Sets.{set_in}
use Rattle.plan_verdict.specs.Relation.{numbered, input, finished}

-- a relation's expressions over these columns
abbrev pub over : ℕ → List Ty → Scope
over number columns = record { relation = number; columns = columns }

-- a condition that may be absent
abbrev pub maybe_condition : Scope → Option Expression → Checking (Option Expr)
maybe_condition scope None = accept None
maybe_condition scope (Some written) = do
  expr ← condition scope (Some written)
  accept (Some expr)

-- the source, the filter over the base columns, and the projection, of a read of columns of these names and types
abbrev pub read_over : ℕ → Option RelCommon → List (List ℕ) → List Ty → Option Expression → Option MaskExpression → (ℕ → List Ty → Checking Source) → Checking Rel
read_over number common names types filter projection source = do
  table ← source number types
  kept ← maybe_condition (over number types) filter
  mask ← part number (mask_in (length types) projection)
  finished number common (ops.Read table names types kept mask) (columns_at types mask)

-- ReadRel
abbrev pub read : ℕ → Option RelCommon → Option NamedStruct → Option Expression → Option MaskExpression → (ℕ → List Ty → Checking Source) → Checking Rel
read number common schema filter projection source = do
  (names, types) ← part number (schema_in schema)
  read_over number common names types filter projection source

-- FilterRel
abbrev pub filter : ℕ → Option RelCommon → Option (ℕ → Checking Rel) → Option Expression → Checking Rel
filter number common written test = do
  rel ← input number written
  expr ← condition (over number (columns_of rel)) test
  finished number common (ops.Filter rel expr) (columns_of rel)

-- the offset and the count of a fetch
abbrev pub offset : Checked RawOffset-F → Option (Option ℤ)
offset RawOffset-F.«RawOffset::Missing» = Some None
offset (RawOffset-F.Offset value) = Some (Some value)
offset (RawOffset-F.OffsetExpr expr) = amount_of expr.literal

abbrev pub count : Checked RawCount-F → Option (Option ℤ)
count RawCount-F.«RawCount::Missing» = Some None
count (RawCount-F.Count value) = Some (Some value)
count (RawCount-F.CountExpr expr) = amount_of expr.literal

-- FetchRel
abbrev pub fetch : ℕ → Option RelCommon → Option (ℕ → Checking Rel) → Option (Option ℤ) → Option (Option ℤ) → Checking Rel
fetch number common written from many = do
  rel ← input number written
  (skipped, taken) ← part number (amounts_in from many)
  finished number common (ops.Fetch rel skipped taken) (columns_of rel)

-- whether a direction descends, and whether nulls come first
abbrev pub direction_of : ℕ → Option (Bool × Bool)
direction_of direction =
    if direction == 1 then Some (false, true)
    else if direction == 2 then Some (false, false)
    else if direction == 3 then Some (true, true)
    else if direction == 4 then Some (true, false)
    else None

-- SortField
abbrev pub sort_key : Option Expression → ℕ → Scope → Checking SortKey
sort_key written direction scope = do
  expr ← required scope written
  (descending, nulls_first) ← part scope.relation (ok_or (direction_of direction) rules.UnsupportedForm)
  accept (record { expr = expr; descending = descending; nulls_first = nulls_first })

abbrev pub sort_field : Checked SortField-F → Scope → Checking SortKey
sort_field field = sort_key field.expr field.direction

-- SortRel
abbrev pub sort : ℕ → Option RelCommon → Option (ℕ → Checking Rel) → List (Scope → Checking SortKey) → Checking Rel
sort number common written sorts = do
  rel ← input number written
  keys ← in_order (map (λ key. key (over number (columns_of rel))) sorts)
  finished number common (ops.Sort rel keys) (columns_of rel)

-- JoinRel.JoinType
abbrev pub join_kind : ℕ → Option JoinKind
join_kind type =
    if type == 1 then Some joins.Inner
    else if type == 2 then Some joins.Outer
    else if type == 3 then Some joins.Left
    else if type == 4 then Some joins.Right
    else if type == 5 then Some joins.LeftSemi
    else if type == 6 then Some joins.LeftAnti
    else None

-- the conditions of a join of these inputs: the one over the left columns and then the right ones, the later one over what the
-- join gives
abbrev pub join_over : ℕ → Option RelCommon → Rel → Rel → JoinKind → Option Expression → Option Expression → Checking Rel
join_over number common left right kind expression post_join_filter = do
  on ← condition (over number (columns_of left ++ columns_of right)) expression
  post ← maybe_condition (over number (join_columns kind (columns_of left) (columns_of right))) post_join_filter
  finished number common (ops.Join left right kind on post) (join_columns kind (columns_of left) (columns_of right))

-- JoinRel
abbrev pub join : ℕ → Option RelCommon → Option (ℕ → Checking Rel) → Option (ℕ → Checking Rel) → Option Expression → Option Expression → ℕ → Checking Rel
join number common left_written right_written expression post_join_filter type = do
  left ← input number left_written
  right ← input number right_written
  kind ← part number (ok_or (join_kind type) rules.UnsupportedForm)
  join_over number common left right kind expression post_join_filter

-- CrossRel
abbrev pub cross : ℕ → Option RelCommon → Option (ℕ → Checking Rel) → Option (ℕ → Checking Rel) → Checking Rel
cross number common left_written right_written = do
  left ← input number left_written
  right ← input number right_written
  finished number common (ops.Cross left right) (columns_of left ++ columns_of right)

-- ProjectRel: the input's columns, and then the expressions
abbrev pub project : ℕ → Option RelCommon → Option (ℕ → Checking Rel) → List Expression → Checking Rel
project number common written expressions = do
  rel ← input number written
  exprs ← each_in (over number (columns_of rel)) expressions
  finished number common (ops.Project rel exprs) (columns_of rel ++ map ty_of exprs)

-- SetRel
abbrev pub set : ℕ → Option RelCommon → List (ℕ → Checking Rel) → ℕ → Checking Rel
set number common written code = do
  rels ← in_order (map numbered written)
  part number (set_in number common rels code)
