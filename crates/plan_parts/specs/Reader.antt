-- The tree of a plan's bytes.
use Rattle.std.specs.Prelude.{ℕ, zero, suc, List, Some, None, Result, Ok, Err}
use Rattle.pb_wire.specs.Payloads.{Field, fields_of}
use Rattle.plan_scan.specs.declared.shape.Shape.{Shape}
use Rattle.plan_scan.specs.declared.shape.Shape.TheVariants as s
use Rattle.plan_scan.specs.declared.flaw.Flaw.{Flaw}
use Rattle.plan_scan.specs.Flaw.{flaw}
use Rattle.plan_raw.specs.declared.plan.PlanTree.{PlanTree}
use Rattle.plan_parts.specs.Shapes.{Tree, Reader}
use Rattle.plan_parts.specs.Types.{type_by, struct_type_by, literal_by}
use Rattle.plan_parts.specs.Exprs.{argument_by, scalar_function_by, if_clause_by, if_then_by, if_value_by, switch_by, singular_or_list_by, cast_by, scalar_by, in_predicate_by, set_predicate_by, subquery_by, expression_by}
use Rattle.plan_parts.specs.Rels as rels

-- the messages of a level, where those one level further down are read by a reader
abbrev pub tree_by : Reader → (shape : Shape) → List Field → Tree shape
tree_by r s.Rel fields = rels.rel_by r fields
tree_by r s.ReadRel fields = rels.read_by r fields
tree_by r s.FilterRel fields = rels.filter_by r fields
tree_by r s.FetchRel fields = rels.fetch_by r fields
tree_by r s.AggregateRel fields = rels.aggregate_by r fields
tree_by r s.SortRel fields = rels.sort_by r fields
tree_by r s.JoinRel fields = rels.join_by r fields
tree_by r s.ProjectRel fields = rels.project_by r fields
tree_by r s.SetRel fields = rels.set_by r fields
tree_by r s.CrossRel fields = rels.cross_by r fields
tree_by r s.NamedStruct fields = rels.named_struct_by r fields
tree_by r s.VirtualTable fields = rels.virtual_table_by r fields
tree_by r s.LiteralRow fields = rels.literal_row_by r fields
tree_by r s.ExpressionRow fields = rels.expression_row_by r fields
tree_by r s.Grouping fields = rels.grouping_by r fields
tree_by r s.Measure fields = rels.measure_by r fields
tree_by r s.AggregateFunction fields = rels.aggregate_function_by r fields
tree_by r s.SortField fields = rels.sort_field_by r fields
tree_by r s.Expression fields = expression_by r fields
tree_by r s.ScalarFunction fields = scalar_function_by r fields
tree_by r s.FunctionArgument fields = argument_by r fields
tree_by r s.IfThen fields = if_then_by r fields
tree_by r s.IfClause fields = if_clause_by r fields
tree_by r s.SwitchExpression fields = switch_by r fields
tree_by r s.IfValue fields = if_value_by r fields
tree_by r s.SingularOrList fields = singular_or_list_by r fields
tree_by r s.Cast fields = cast_by r fields
tree_by r s.Subquery fields = subquery_by r fields
tree_by r s.ScalarSubquery fields = scalar_by r fields
tree_by r s.InPredicate fields = in_predicate_by r fields
tree_by r s.SetPredicate fields = set_predicate_by r fields
tree_by r s.Literal fields = literal_by r fields
tree_by r s.DataType fields = type_by r fields
tree_by r s.StructType fields = struct_type_by r fields
tree_by r s.PlanRel fields = rels.plan_rel_by r fields
tree_by r s.RelRoot fields = rels.root_by r fields
tree_by r _ fields = tt

-- the reader of messages with so many levels left
unfoldable pub reader : ℕ → Reader
reader zero shape fields = None
reader (suc levels) shape fields = Some (tree_by (reader levels) shape fields)

-- the plan's tree: 99 levels of messages may lie below the plan
abbrev pub tree_of : List ℕ → PlanTree
tree_of bytes = rels.plan_by (reader 99) (fields_of bytes)

-- the tree of the bytes, or their first flaw
abbrev pub plan_of : List ℕ → Result PlanTree Flaw
plan_of bytes = elim (flaw bytes) [ None ↦ Ok (tree_of bytes) | Some found ↦ Err found ]
