-- Relations and what stands in them, and the roots of a plan.
use Rattle.std.specs.Prelude.{ℕ, List, [], Option, None, true, false, ◌==◌, if◌then◌else◌, unwrap_or}
use Rattle.std.specs.Option.{option_map_or}
use Rattle.pb_wire.specs.Payloads.{Field, blocks, uint32_field, int64_field, uint32_numbers}
use Rattle.plan_scan.specs.declared.oneof.OneOf.TheVariants.{PlanRelType, ReadType, OffsetMode, CountMode, RelType}
use Rattle.plan_scan.specs.declared.shape.Shape.TheVariants as s
use Rattle.plan_raw.specs.declared.plan.PlanTree.{PlanTree}
use Rattle.plan_raw.specs.declared.plan.RootDecl.{RootDecl}
use Rattle.plan_leaves.specs.declared.common.RelCommon.{RelCommon}
use Rattle.plan_raw.specs.declared.rel.RawRel.{RawRel}
use Rattle.plan_raw.specs.declared.rel.RawRel.TheVariants as rel
use Rattle.plan_raw.specs.declared.rel.RawOffset.{RawOffset}
use Rattle.plan_raw.specs.declared.rel.RawOffset.TheVariants as offset
use Rattle.plan_raw.specs.declared.rel.RawCount.{RawCount}
use Rattle.plan_raw.specs.declared.rel.RawCount.TheVariants as count
use Rattle.plan_leaves.specs.declared.schema.NamedStruct.{NamedStruct}
use Rattle.plan_leaves.specs.declared.literal.LiteralRow.{LiteralRow}
use Rattle.plan_raw.specs.declared.source.ExprRow.{ExprRow, roll-ExprRow}
use Rattle.plan_raw.specs.declared.source.VirtualTable.{VirtualTable, roll-VirtualTable}
use Rattle.plan_raw.specs.declared.source.RawSource.{RawSource}
use Rattle.plan_raw.specs.declared.source.RawSource.TheVariants as source
use Rattle.plan_raw.specs.declared.aggregate.Grouping.{Grouping, roll-Grouping}
use Rattle.plan_raw.specs.declared.aggregate.Measure.{Measure, roll-Measure}
use Rattle.plan_raw.specs.declared.aggregate.AggregateFunction.{AggregateFunction, roll-AggregateFunction}
use Rattle.plan_raw.specs.declared.aggregate.SortField.{SortField, roll-SortField}
use Rattle.plan_parts.specs.Words.{part, parts, winner}
use Rattle.plan_parts.specs.Parts.{uri_of, functions_of, common_of, named_table_of, local_files_of, mask_of, option_of}
use Rattle.plan_parts.specs.Shapes.{Reader, child, children}

-- field 1 of each relation
abbrev pub common_in : List Field → Option RelCommon
common_in fields = part common_of 1 fields

-- NamedStruct
abbrev pub named_struct_by : Reader → List Field → NamedStruct
named_struct_by r fields = record { names = blocks 1 fields; struct_ = child r s.StructType 2 fields }

-- ReadRel.VirtualTable and its rows
abbrev pub literal_row_by : Reader → List Field → LiteralRow
literal_row_by r fields = record { fields = children r s.Literal 1 fields }

abbrev pub expression_row_by : Reader → List Field → ExprRow
expression_row_by r fields = roll-ExprRow (record { fields = children r s.Expression 1 fields })

abbrev pub virtual_table_by : Reader → List Field → VirtualTable
virtual_table_by r fields = roll-VirtualTable (record { values = children r s.LiteralRow 1 fields; expressions = children r s.ExpressionRow 2 fields })

-- ReadRel
abbrev pub source_member : Reader → ℕ → List Field → RawSource
source_member r number fields =
    if number == 5 then option_map_or source.VirtualTable (child r s.VirtualTable 5 fields) source.Missing
    else if number == 6 then option_map_or source.LocalFiles (part local_files_of 6 fields) source.Missing
    else option_map_or source.NamedTable (part named_table_of 7 fields) source.Missing

abbrev pub source_by : Reader → List Field → RawSource
source_by r fields = winner ReadType source.Missing (source_member r) fields

abbrev pub read_by : Reader → List Field → RawRel
read_by r fields = rel.Read (common_in fields) (child r s.NamedStruct 2 fields) (child r s.Expression 3 fields) (part mask_of 4 fields) (source_by r fields) (child r s.Expression 11 fields)

-- FilterRel
abbrev pub filter_by : Reader → List Field → RawRel
filter_by r fields = rel.Filter (common_in fields) (child r s.Rel 2 fields) (child r s.Expression 3 fields)

-- FetchRel
abbrev pub offset_member : Reader → ℕ → List Field → RawOffset
offset_member r number fields =
    if number == 3 then offset.Offset (int64_field 3 fields)
    else option_map_or offset.OffsetExpr (child r s.Expression 5 fields) offset.Missing

abbrev pub offset_by : Reader → List Field → RawOffset
offset_by r fields = winner OffsetMode offset.Missing (offset_member r) fields

abbrev pub count_member : Reader → ℕ → List Field → RawCount
count_member r number fields =
    if number == 4 then count.Count (int64_field 4 fields)
    else option_map_or count.CountExpr (child r s.Expression 6 fields) count.Missing

abbrev pub count_by : Reader → List Field → RawCount
count_by r fields = winner CountMode count.Missing (count_member r) fields

abbrev pub fetch_by : Reader → List Field → RawRel
fetch_by r fields = rel.Fetch (common_in fields) (child r s.Rel 2 fields) (offset_by r fields) (count_by r fields)

-- AggregateRel
abbrev pub grouping_by : Reader → List Field → Grouping
grouping_by r fields = roll-Grouping (record { grouping_expressions = children r s.Expression 1 fields; expression_references = uint32_numbers 2 fields })

abbrev pub sort_field_by : Reader → List Field → SortField
sort_field_by r fields = roll-SortField (record { expr = child r s.Expression 1 fields; direction = uint32_field 2 fields })

abbrev pub aggregate_function_by : Reader → List Field → AggregateFunction
aggregate_function_by r fields = roll-AggregateFunction (record {
  function_reference = uint32_field 1 fields;
  sorts = children r s.SortField 3 fields;
  phase = uint32_field 4 fields;
  output_type = child r s.DataType 5 fields;
  invocation = uint32_field 6 fields;
  arguments = children r s.FunctionArgument 7 fields;
  options = parts option_of 8 fields;
})

abbrev pub measure_by : Reader → List Field → Measure
measure_by r fields = roll-Measure (record { measure = child r s.AggregateFunction 1 fields; filter = child r s.Expression 2 fields })

abbrev pub aggregate_by : Reader → List Field → RawRel
aggregate_by r fields = rel.Aggregate (common_in fields) (child r s.Rel 2 fields) (children r s.Grouping 3 fields) (children r s.Measure 4 fields) (children r s.Expression 5 fields)

-- SortRel
abbrev pub sort_by : Reader → List Field → RawRel
sort_by r fields = rel.Sort (common_in fields) (child r s.Rel 2 fields) (children r s.SortField 3 fields)

-- JoinRel
abbrev pub join_by : Reader → List Field → RawRel
join_by r fields = rel.Join (common_in fields) (child r s.Rel 2 fields) (child r s.Rel 3 fields) (child r s.Expression 4 fields) (child r s.Expression 5 fields) (uint32_field 6 fields)

-- ProjectRel
abbrev pub project_by : Reader → List Field → RawRel
project_by r fields = rel.Project (common_in fields) (child r s.Rel 2 fields) (children r s.Expression 3 fields)

-- SetRel
abbrev pub set_by : Reader → List Field → RawRel
set_by r fields = rel.Set (common_in fields) (children r s.Rel 2 fields) (uint32_field 3 fields)

-- CrossRel
abbrev pub cross_by : Reader → List Field → RawRel
cross_by r fields = rel.Cross (common_in fields) (child r s.Rel 2 fields) (child r s.Rel 3 fields)

-- Rel
abbrev pub rel_member : Reader → ℕ → List Field → RawRel
rel_member r number fields =
    if number == 1 then unwrap_or (child r s.ReadRel 1 fields) rel.Missing
    else if number == 2 then unwrap_or (child r s.FilterRel 2 fields) rel.Missing
    else if number == 3 then unwrap_or (child r s.FetchRel 3 fields) rel.Missing
    else if number == 4 then unwrap_or (child r s.AggregateRel 4 fields) rel.Missing
    else if number == 5 then unwrap_or (child r s.SortRel 5 fields) rel.Missing
    else if number == 6 then unwrap_or (child r s.JoinRel 6 fields) rel.Missing
    else if number == 7 then unwrap_or (child r s.ProjectRel 7 fields) rel.Missing
    else if number == 8 then unwrap_or (child r s.SetRel 8 fields) rel.Missing
    else if number == 12 then unwrap_or (child r s.CrossRel 12 fields) rel.Missing
    else rel.Unknown number

abbrev pub rel_by : Reader → List Field → RawRel
rel_by r fields = winner RelType rel.Missing (rel_member r) fields

-- RelRoot
abbrev pub root_by : Reader → List Field → RootDecl
root_by r fields = record { is_root = true; input = child r s.Rel 1 fields; names = blocks 2 fields }

-- a PlanRel that is no root
abbrev pub no_root : RootDecl
no_root = record { is_root = false; input = None; names = [] }

-- PlanRel
abbrev pub plan_rel_member : Reader → ℕ → List Field → RootDecl
plan_rel_member r number fields = if number == 2 then unwrap_or (child r s.RelRoot 2 fields) no_root else no_root

abbrev pub plan_rel_by : Reader → List Field → RootDecl
plan_rel_by r fields = winner PlanRelType no_root (plan_rel_member r) fields

-- Plan
abbrev pub plan_by : Reader → List Field → PlanTree
plan_by r fields = record { uris = parts uri_of 1 fields; functions = functions_of 2 fields; roots = children r s.PlanRel 3 fields }
