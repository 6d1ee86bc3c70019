-- The fields of relations and of what stands in them, and of a plan and its roots.
use Rattle.std.specs.Prelude.{ℕ, ℤ, List, [], ◌∷◌, Bool, true, false, if◌then◌else◌}
use Rattle.plan_scan.specs.declared.shape.Shape.TheVariants as s
use Rattle.plan_leaves.specs.declared.files.LocalFiles.{LocalFiles}
use Rattle.plan_leaves.specs.declared.schema.NamedTable.{NamedTable}
use Rattle.plan_raw.specs.declared.aggregate.AggregateFunction.{AggregateFunction, AggregateFunction-F, out-AggregateFunction}
use Rattle.plan_raw.specs.declared.aggregate.Grouping.{Grouping, out-Grouping}
use Rattle.plan_raw.specs.declared.aggregate.Measure.{Measure, out-Measure}
use Rattle.plan_raw.specs.declared.aggregate.SortField.{SortField, out-SortField}
use Rattle.plan_raw.specs.declared.expr.RawExpr.{RawExpr}
use Rattle.plan_raw.specs.declared.plan.PlanTree.{PlanTree}
use Rattle.plan_raw.specs.declared.plan.RootDecl.{RootDecl}
use Rattle.plan_raw.specs.declared.rel.RawCount.{RawCount, RawCount-F, out-RawCount}
use Rattle.plan_raw.specs.declared.rel.RawOffset.{RawOffset, RawOffset-F, out-RawOffset}
use Rattle.plan_raw.specs.declared.rel.RawRel.{RawRel, RawRel-F, out-RawRel}
use Rattle.plan_raw.specs.declared.source.ExprRow.{ExprRow, out-ExprRow}
use Rattle.plan_raw.specs.declared.source.RawSource.{RawSource, RawSource-F, out-RawSource}
use Rattle.plan_raw.specs.declared.source.VirtualTable.{VirtualTable, out-VirtualTable}
use Rattle.plan_spell.specs.Held.{Held, Int64s, PackedUint32s, Part, uint32, blocks, messages, message, member}
use Rattle.plan_spell.specs.Exprs.{Opened}

-- ReadRel.VirtualTable and its rows of expressions
abbrev pub virtual_table_parts : VirtualTable → List Part
virtual_table_parts table = messages 1 s.LiteralRow (out-VirtualTable table).values ∷ messages 2 s.ExpressionRow (out-VirtualTable table).expressions ∷ []

abbrev pub expression_row_parts : ExprRow → List Part
expression_row_parts row = messages 1 s.Expression (out-ExprRow row).fields ∷ []

-- the oneof of a ReadRel, a field for each of its members
abbrev pub virtual_tables : Opened RawSource-F → List VirtualTable
virtual_tables (RawSource-F.VirtualTable table) = table ∷ []
virtual_tables _ = []

abbrev pub local_files : Opened RawSource-F → List LocalFiles
local_files (RawSource-F.LocalFiles files) = files ∷ []
local_files _ = []

abbrev pub named_tables : Opened RawSource-F → List NamedTable
named_tables (RawSource-F.NamedTable table) = table ∷ []
named_tables _ = []

-- ReadRel
abbrev pub read_parts : Opened RawRel-F → List Part
read_parts (RawRel-F.Read common schema filter projection source best_effort_filter) =
    message 1 s.RelCommon common ∷ message 2 s.NamedStruct schema ∷ message 3 s.Expression filter ∷ message 4 s.MaskExpression projection
    ∷ messages 5 s.VirtualTable (virtual_tables (out-RawSource source)) ∷ messages 6 s.LocalFiles (local_files (out-RawSource source)) ∷ messages 7 s.NamedTable (named_tables (out-RawSource source))
    ∷ message 11 s.Expression best_effort_filter ∷ []
read_parts _ = []

-- FilterRel
abbrev pub filter_parts : Opened RawRel-F → List Part
filter_parts (RawRel-F.Filter common input condition) = message 1 s.RelCommon common ∷ message 2 s.Rel input ∷ message 3 s.Expression condition ∷ []
filter_parts _ = []

-- the oneofs of a FetchRel, a field for each of their members
abbrev pub offsets : Opened RawOffset-F → List ℤ
offsets (RawOffset-F.Offset offset) = offset ∷ []
offsets _ = []

abbrev pub offset_exprs : Opened RawOffset-F → List RawExpr
offset_exprs (RawOffset-F.OffsetExpr expr) = expr ∷ []
offset_exprs _ = []

abbrev pub counts : Opened RawCount-F → List ℤ
counts (RawCount-F.Count count) = count ∷ []
counts _ = []

abbrev pub count_exprs : Opened RawCount-F → List RawExpr
count_exprs (RawCount-F.CountExpr expr) = expr ∷ []
count_exprs _ = []

-- FetchRel
abbrev pub fetch_parts : Opened RawRel-F → List Part
fetch_parts (RawRel-F.Fetch common input offset count) =
    message 1 s.RelCommon common ∷ message 2 s.Rel input
    ∷ record { number = 3; held = Int64s (offsets (out-RawOffset offset)) } ∷ record { number = 4; held = Int64s (counts (out-RawCount count)) }
    ∷ messages 5 s.Expression (offset_exprs (out-RawOffset offset)) ∷ messages 6 s.Expression (count_exprs (out-RawCount count)) ∷ []
fetch_parts _ = []

-- AggregateRel
abbrev pub aggregate_parts : Opened RawRel-F → List Part
aggregate_parts (RawRel-F.Aggregate common input groupings measures exprs) =
    message 1 s.RelCommon common ∷ message 2 s.Rel input ∷ messages 3 s.Grouping groupings ∷ messages 4 s.Measure measures ∷ messages 5 s.Expression exprs ∷ []
aggregate_parts _ = []

abbrev pub grouping_parts : Grouping → List Part
grouping_parts grouping = messages 1 s.Expression (out-Grouping grouping).grouping_expressions ∷ record { number = 2; held = PackedUint32s (out-Grouping grouping).expression_references } ∷ []

abbrev pub measure_parts : Measure → List Part
measure_parts measure = message 1 s.AggregateFunction (out-Measure measure).measure ∷ message 2 s.Expression (out-Measure measure).filter ∷ []

-- AggregateFunction
abbrev pub aggregate_function_parts : Opened AggregateFunction-F → List Part
aggregate_function_parts function =
    uint32 1 function.function_reference ∷ messages 3 s.SortField function.sorts ∷ uint32 4 function.phase ∷ message 5 s.DataType function.output_type
    ∷ uint32 6 function.invocation ∷ messages 7 s.FunctionArgument function.arguments ∷ messages 8 s.FunctionOption function.options ∷ []

-- SortField
abbrev pub sort_field_parts : SortField → List Part
sort_field_parts sort = message 1 s.Expression (out-SortField sort).expr ∷ uint32 2 (out-SortField sort).direction ∷ []

-- SortRel
abbrev pub sort_parts : Opened RawRel-F → List Part
sort_parts (RawRel-F.Sort common input sorts) = message 1 s.RelCommon common ∷ message 2 s.Rel input ∷ messages 3 s.SortField sorts ∷ []
sort_parts _ = []

-- JoinRel
abbrev pub join_parts : Opened RawRel-F → List Part
join_parts (RawRel-F.Join common left right condition post_join_filter type) =
    message 1 s.RelCommon common ∷ message 2 s.Rel left ∷ message 3 s.Rel right ∷ message 4 s.Expression condition ∷ message 5 s.Expression post_join_filter ∷ uint32 6 type ∷ []
join_parts _ = []

-- ProjectRel
abbrev pub project_parts : Opened RawRel-F → List Part
project_parts (RawRel-F.Project common input exprs) = message 1 s.RelCommon common ∷ message 2 s.Rel input ∷ messages 3 s.Expression exprs ∷ []
project_parts _ = []

-- SetRel
abbrev pub set_parts : Opened RawRel-F → List Part
set_parts (RawRel-F.Set common inputs op) = message 1 s.RelCommon common ∷ messages 2 s.Rel inputs ∷ uint32 3 op ∷ []
set_parts _ = []

-- CrossRel
abbrev pub cross_parts : Opened RawRel-F → List Part
cross_parts (RawRel-F.Cross common left right) = message 1 s.RelCommon common ∷ message 2 s.Rel left ∷ message 3 s.Rel right ∷ []
cross_parts _ = []

-- Rel
abbrev pub rel_parts : RawRel → Opened RawRel-F → List Part
rel_parts rel RawRel-F.«RawRel::Missing» = []
rel_parts rel (RawRel-F.«RawRel::Unknown» number) = []
rel_parts rel (RawRel-F.Read common schema filter projection source best_effort_filter) = member 1 s.ReadRel rel ∷ []
rel_parts rel (RawRel-F.Filter common input condition) = member 2 s.FilterRel rel ∷ []
rel_parts rel (RawRel-F.Fetch common input offset count) = member 3 s.FetchRel rel ∷ []
rel_parts rel (RawRel-F.Aggregate common input groupings measures exprs) = member 4 s.AggregateRel rel ∷ []
rel_parts rel (RawRel-F.Sort common input sorts) = member 5 s.SortRel rel ∷ []
rel_parts rel (RawRel-F.Join common left right condition post_join_filter type) = member 6 s.JoinRel rel ∷ []
rel_parts rel (RawRel-F.Project common input exprs) = member 7 s.ProjectRel rel ∷ []
rel_parts rel (RawRel-F.Set common inputs op) = member 8 s.SetRel rel ∷ []
rel_parts rel (RawRel-F.Cross common left right) = member 12 s.CrossRel rel ∷ []

-- RelRoot
abbrev pub root_parts : RootDecl → List Part
root_parts root = message 1 s.Rel root.input ∷ blocks 2 root.names ∷ []

-- PlanRel; one that is no root has an input alone, and that isn't kept
abbrev pub plan_rel_parts : RootDecl → List Part
plan_rel_parts root = messages 2 s.RelRoot (if root.is_root then root ∷ [] else []) ∷ []

-- Plan
abbrev pub plan_parts : PlanTree → List Part
plan_parts plan = messages 1 s.ExtensionUri plan.uris ∷ messages 2 s.ExtensionDeclaration plan.functions ∷ messages 3 s.PlanRel plan.roots ∷ []
