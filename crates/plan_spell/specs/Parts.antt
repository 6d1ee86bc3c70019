-- The fields of each message of a plan (Substrait's plan.proto, algebra.proto, type.proto and function.proto).
use Rattle.std.specs.Prelude.{List, []}
use Rattle.plan_scan.specs.declared.shape.Shape.{Shape}
use Rattle.plan_scan.specs.declared.shape.Shape.TheVariants as s
use Rattle.plan_raw.specs.declared.aggregate.AggregateFunction.{out-AggregateFunction}
use Rattle.plan_raw.specs.declared.argument.FunctionArgument.{out-FunctionArgument}
use Rattle.plan_raw.specs.declared.expr.RawExpr.{out-RawExpr}
use Rattle.plan_raw.specs.declared.rel.RawRel.{out-RawRel}
use Rattle.plan_leaves.specs.declared.types.RawType.{out-RawType}
use Rattle.plan_spell.specs.Nodes.{Node}
use Rattle.plan_spell.specs.Held.{Part}
use Rattle.plan_spell.specs.Leaves as leaves
use Rattle.plan_spell.specs.Exprs as exprs
use Rattle.plan_spell.specs.Rels as rels

-- what a message of a shape holds, field by field
abbrev pub parts_of : (shape : Shape) → Node shape → List Part
parts_of s.Empty node = []
parts_of s.Plan plan = rels.plan_parts plan
parts_of s.PlanRel root = rels.plan_rel_parts root
parts_of s.RelRoot root = rels.root_parts root
parts_of s.ExtensionUri uri = leaves.uri_parts uri
parts_of s.ExtensionDeclaration function = leaves.declaration_parts function
parts_of s.ExtensionFunction function = leaves.function_parts function
parts_of s.Rel rel = rels.rel_parts rel (out-RawRel rel)
parts_of s.RelCommon common = leaves.common_parts common
parts_of s.Emit mapping = leaves.emit_parts mapping
parts_of s.ReadRel rel = rels.read_parts (out-RawRel rel)
parts_of s.NamedStruct schema = leaves.named_struct_parts schema
parts_of s.StructType struct = leaves.struct_type_parts struct
parts_of s.NamedTable table = leaves.named_table_parts table
parts_of s.VirtualTable table = rels.virtual_table_parts table
parts_of s.LiteralRow row = leaves.literal_row_parts row
parts_of s.ExpressionRow row = rels.expression_row_parts row
parts_of s.LocalFiles files = leaves.local_files_parts files
parts_of s.FileItem item = leaves.file_item_parts item
parts_of s.FilterRel rel = rels.filter_parts (out-RawRel rel)
parts_of s.FetchRel rel = rels.fetch_parts (out-RawRel rel)
parts_of s.AggregateRel rel = rels.aggregate_parts (out-RawRel rel)
parts_of s.Grouping grouping = rels.grouping_parts grouping
parts_of s.Measure measure = rels.measure_parts measure
parts_of s.AggregateFunction function = rels.aggregate_function_parts (out-AggregateFunction function)
parts_of s.SortRel rel = rels.sort_parts (out-RawRel rel)
parts_of s.SortField sort = rels.sort_field_parts sort
parts_of s.JoinRel rel = rels.join_parts (out-RawRel rel)
parts_of s.ProjectRel rel = rels.project_parts (out-RawRel rel)
parts_of s.SetRel rel = rels.set_parts (out-RawRel rel)
parts_of s.CrossRel rel = rels.cross_parts (out-RawRel rel)
parts_of s.MaskExpression mask = leaves.mask_parts mask
parts_of s.StructSelect select = leaves.mask_struct_parts select
parts_of s.StructItem item = leaves.mask_item_parts item
parts_of s.Expression expr = exprs.expression_parts expr (out-RawExpr expr)
parts_of s.ScalarFunction expr = exprs.scalar_function_parts (out-RawExpr expr)
parts_of s.FunctionArgument argument = exprs.argument_parts (out-FunctionArgument argument)
parts_of s.FunctionOption option = leaves.option_parts option
parts_of s.FieldReference expr = exprs.reference_parts (out-RawExpr expr)
parts_of s.ReferenceSegment segment = leaves.segment_parts segment
parts_of s.StructField field = leaves.struct_field_parts field
parts_of s.IfThen expr = exprs.if_then_parts (out-RawExpr expr)
parts_of s.IfClause clause = exprs.if_clause_parts clause
parts_of s.SwitchExpression expr = exprs.switch_parts (out-RawExpr expr)
parts_of s.IfValue value = exprs.if_value_parts value
parts_of s.SingularOrList expr = exprs.singular_or_list_parts (out-RawExpr expr)
parts_of s.Cast expr = exprs.cast_parts (out-RawExpr expr)
parts_of s.Literal literal = leaves.literal_parts literal
parts_of s.DecimalLiteral literal = leaves.decimal_parts literal
parts_of s.DataType ty = leaves.type_parts ty (out-RawType ty)
parts_of s.PlainType nullability = leaves.plain_parts nullability
parts_of s.DecimalType ty = leaves.decimal_type_parts ty
parts_of s.Subquery expr = exprs.subquery_parts expr (out-RawExpr expr)
parts_of s.ScalarSubquery expr = exprs.scalar_parts (out-RawExpr expr)
parts_of s.InPredicate expr = exprs.in_predicate_parts (out-RawExpr expr)
parts_of s.SetPredicate expr = exprs.set_predicate_parts (out-RawExpr expr)
