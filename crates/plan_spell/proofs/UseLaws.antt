-- Each field of a message holds what the table of messages says.
use Rattle.std.proofs.Common.{◌≡◌, refl, ℕ, List, [], ◌∷◌, true}
use Rattle.plan_spell.proofs.ReadableLaws.{AreOfUse}
use Rattle.plan_scan.specs.declared.shape.Shape.{Shape}
use Rattle.plan_scan.specs.declared.shape.Shape.TheVariants as s
use Rattle.plan_leaves.specs.declared.common.RelCommon.{RelCommon}
use Rattle.plan_leaves.specs.declared.common.RelCommon.TheVariants as common
use Rattle.plan_leaves.specs.declared.files.FileItem.{FileItem}
use Rattle.plan_leaves.specs.declared.files.ItemPath.{ItemPath}
use Rattle.plan_leaves.specs.declared.files.ItemPath.TheVariants as path
use Rattle.plan_leaves.specs.declared.literal.RawLiteral.{RawLiteral}
use Rattle.plan_leaves.specs.declared.literal.RawLiteral.TheVariants as l
use Rattle.plan_leaves.specs.declared.types.RawType.{RawType, RawType-F, out-RawType}
use Rattle.plan_leaves.specs.declared.types.RawType.TheVariants as t
use Rattle.plan_raw.specs.declared.aggregate.AggregateFunction.{out-AggregateFunction}
use Rattle.plan_raw.specs.declared.argument.FunctionArgument.{FunctionArgument-F, out-FunctionArgument}
use Rattle.plan_raw.specs.declared.expr.RawExpr.{RawExpr, RawExpr-F, out-RawExpr}
use Rattle.plan_raw.specs.declared.rel.RawRel.{RawRel, RawRel-F, out-RawRel}
use Rattle.plan_spell.specs.Nodes.{Node}
use Rattle.plan_spell.specs.Leaves as leaves
use Rattle.plan_spell.specs.Exprs as exprs
use Rattle.plan_spell.specs.Exprs.{Opened}
use Rattle.plan_spell.specs.Rels as rels
use Rattle.plan_spell.specs.Parts.{parts_of}

read_of_use : (o : Opened RawRel-F) → AreOfUse s.ReadRel (rels.read_parts o)
read_of_use (RawRel-F.Read common schema filter projection source best) = (refl, (refl, (refl, (refl, (refl, (refl, (refl, (refl, tt))))))))
read_of_use _ = tt

filter_of_use : (o : Opened RawRel-F) → AreOfUse s.FilterRel (rels.filter_parts o)
filter_of_use (RawRel-F.Filter common input condition) = (refl, (refl, (refl, tt)))
filter_of_use _ = tt

fetch_of_use : (o : Opened RawRel-F) → AreOfUse s.FetchRel (rels.fetch_parts o)
fetch_of_use (RawRel-F.Fetch common input offset count) = (refl, (refl, (tt, (tt, (refl, (refl, tt))))))
fetch_of_use _ = tt

aggregate_of_use : (o : Opened RawRel-F) → AreOfUse s.AggregateRel (rels.aggregate_parts o)
aggregate_of_use (RawRel-F.Aggregate common input groupings measures exprs) = (refl, (refl, (refl, (refl, (refl, tt)))))
aggregate_of_use _ = tt

sort_of_use : (o : Opened RawRel-F) → AreOfUse s.SortRel (rels.sort_parts o)
sort_of_use (RawRel-F.Sort common input sorts) = (refl, (refl, (refl, tt)))
sort_of_use _ = tt

join_of_use : (o : Opened RawRel-F) → AreOfUse s.JoinRel (rels.join_parts o)
join_of_use (RawRel-F.Join common left right condition post type) = (refl, (refl, (refl, (refl, (refl, (tt, tt))))))
join_of_use _ = tt

project_of_use : (o : Opened RawRel-F) → AreOfUse s.ProjectRel (rels.project_parts o)
project_of_use (RawRel-F.Project common input exprs) = (refl, (refl, (refl, tt)))
project_of_use _ = tt

set_of_use : (o : Opened RawRel-F) → AreOfUse s.SetRel (rels.set_parts o)
set_of_use (RawRel-F.Set common inputs op) = (refl, (refl, (tt, tt)))
set_of_use _ = tt

cross_of_use : (o : Opened RawRel-F) → AreOfUse s.CrossRel (rels.cross_parts o)
cross_of_use (RawRel-F.Cross common left right) = (refl, (refl, (refl, tt)))
cross_of_use _ = tt

reference_of_use : (o : Opened RawExpr-F) → AreOfUse s.FieldReference (exprs.reference_parts o)
reference_of_use (RawExpr-F.Selection direct root other) = (refl, (tt, (refl, tt)))
reference_of_use _ = tt

scalar_function_of_use : (o : Opened RawExpr-F) → AreOfUse s.ScalarFunction (exprs.scalar_function_parts o)
scalar_function_of_use (RawExpr-F.ScalarFunction reference output arguments options) = (tt, (refl, (refl, (refl, tt))))
scalar_function_of_use _ = tt

if_then_of_use : (o : Opened RawExpr-F) → AreOfUse s.IfThen (exprs.if_then_parts o)
if_then_of_use (RawExpr-F.IfThen ifs other) = (refl, (refl, tt))
if_then_of_use _ = tt

switch_of_use : (o : Opened RawExpr-F) → AreOfUse s.SwitchExpression (exprs.switch_parts o)
switch_of_use (RawExpr-F.SwitchExpression ifs other subject) = (refl, (refl, (refl, tt)))
switch_of_use _ = tt

singular_or_list_of_use : (o : Opened RawExpr-F) → AreOfUse s.SingularOrList (exprs.singular_or_list_parts o)
singular_or_list_of_use (RawExpr-F.SingularOrList value options) = (refl, (refl, tt))
singular_or_list_of_use _ = tt

cast_of_use : (o : Opened RawExpr-F) → AreOfUse s.Cast (exprs.cast_parts o)
cast_of_use (RawExpr-F.Cast ty input failure) = (refl, (refl, (tt, tt)))
cast_of_use _ = tt

scalar_of_use : (o : Opened RawExpr-F) → AreOfUse s.ScalarSubquery (exprs.scalar_parts o)
scalar_of_use (RawExpr-F.Scalar input) = (refl, tt)
scalar_of_use _ = tt

in_predicate_of_use : (o : Opened RawExpr-F) → AreOfUse s.InPredicate (exprs.in_predicate_parts o)
in_predicate_of_use (RawExpr-F.InPredicate needles haystack) = (refl, (refl, tt))
in_predicate_of_use _ = tt

set_predicate_of_use : (o : Opened RawExpr-F) → AreOfUse s.SetPredicate (exprs.set_predicate_parts o)
set_predicate_of_use (RawExpr-F.SetPredicate op tuples) = (tt, (refl, tt))
set_predicate_of_use _ = tt

argument_of_use : (o : Opened FunctionArgument-F) → AreOfUse s.FunctionArgument (exprs.argument_parts o)
argument_of_use FunctionArgument-F.«FunctionArgument::Missing» = tt
argument_of_use (FunctionArgument-F.Enum name) = (tt, tt)
argument_of_use (FunctionArgument-F.TypeArgument ty) = (refl, tt)
argument_of_use (FunctionArgument-F.Value value) = (refl, tt)

common_of_use : (o : RelCommon) → AreOfUse s.RelCommon (leaves.common_parts o)
common_of_use common.Missing = tt
common_of_use common.Direct = (refl, tt)
common_of_use (common.Emit mapping) = (refl, tt)

decimal_of_use : (o : RawLiteral) → AreOfUse s.DecimalLiteral (leaves.decimal_parts o)
decimal_of_use (l.Decimal value precision scale nullable) = (tt, (tt, (tt, tt)))
decimal_of_use _ = tt

decimal_type_of_use : (o : RawType) → AreOfUse s.DecimalType (leaves.decimal_type_parts o)
decimal_type_of_use (t.Decimal scale precision nullability) = (tt, (tt, (tt, tt)))
decimal_type_of_use _ = tt

literal_of_use : (o : RawLiteral) → AreOfUse s.Literal (leaves.literal_parts o)
literal_of_use l.Missing = tt
literal_of_use (l.Unknown number) = tt
literal_of_use (l.Boolean value nullable) = (tt, (tt, tt))
literal_of_use (l.I8 value nullable) = (tt, (tt, tt))
literal_of_use (l.I16 value nullable) = (tt, (tt, tt))
literal_of_use (l.I32 value nullable) = (tt, (tt, tt))
literal_of_use (l.I64 value nullable) = (tt, (tt, tt))
literal_of_use (l.String value nullable) = (tt, (tt, tt))
literal_of_use (l.Binary value nullable) = (tt, (tt, tt))
literal_of_use (l.Timestamp value nullable) = (tt, (tt, tt))
literal_of_use (l.Date value nullable) = (tt, (tt, tt))
literal_of_use (l.Decimal value precision scale nullable) = (refl, (tt, tt))
literal_of_use (l.Null ty nullable) = (refl, (tt, tt))

rel_of_use : (node : RawRel) (o : Opened RawRel-F) → AreOfUse s.Rel (rels.rel_parts node o)
rel_of_use node RawRel-F.«RawRel::Missing» = tt
rel_of_use node (RawRel-F.«RawRel::Unknown» number) = tt
rel_of_use node (RawRel-F.Read common schema filter projection source best) = (refl, tt)
rel_of_use node (RawRel-F.Filter common input condition) = (refl, tt)
rel_of_use node (RawRel-F.Fetch common input offset count) = (refl, tt)
rel_of_use node (RawRel-F.Aggregate common input groupings measures exprs) = (refl, tt)
rel_of_use node (RawRel-F.Sort common input sorts) = (refl, tt)
rel_of_use node (RawRel-F.Join common left right condition post type) = (refl, tt)
rel_of_use node (RawRel-F.Project common input exprs) = (refl, tt)
rel_of_use node (RawRel-F.Set common inputs op) = (refl, tt)
rel_of_use node (RawRel-F.Cross common left right) = (refl, tt)

expression_of_use : (node : RawExpr) (o : Opened RawExpr-F) → AreOfUse s.Expression (exprs.expression_parts node o)
expression_of_use node RawExpr-F.«RawExpr::Missing» = tt
expression_of_use node (RawExpr-F.«RawExpr::Unknown» number) = tt
expression_of_use node (RawExpr-F.Literal literal) = (refl, tt)
expression_of_use node (RawExpr-F.Selection direct root other) = (refl, tt)
expression_of_use node (RawExpr-F.ScalarFunction reference output arguments options) = (refl, tt)
expression_of_use node (RawExpr-F.IfThen ifs other) = (refl, tt)
expression_of_use node (RawExpr-F.SwitchExpression ifs other subject) = (refl, tt)
expression_of_use node (RawExpr-F.SingularOrList value options) = (refl, tt)
expression_of_use node (RawExpr-F.Cast ty input failure) = (refl, tt)
expression_of_use node RawExpr-F.SubqueryMissing = (refl, tt)
expression_of_use node (RawExpr-F.SubqueryUnknown number) = (refl, tt)
expression_of_use node (RawExpr-F.Scalar input) = (refl, tt)
expression_of_use node (RawExpr-F.InPredicate needles haystack) = (refl, tt)
expression_of_use node (RawExpr-F.SetPredicate op tuples) = (refl, tt)
expression_of_use node RawExpr-F.SetComparison = (refl, tt)

subquery_of_use : (node : RawExpr) (o : Opened RawExpr-F) → AreOfUse s.Subquery (exprs.subquery_parts node o)
subquery_of_use node (RawExpr-F.Scalar input) = (refl, tt)
subquery_of_use node (RawExpr-F.InPredicate needles haystack) = (refl, tt)
subquery_of_use node (RawExpr-F.SetPredicate op tuples) = (refl, tt)
subquery_of_use node RawExpr-F.SetComparison = (tt, tt)
subquery_of_use node _ = tt

type_of_use : (node : RawType) (o : RawType-F RawType) → AreOfUse s.DataType (leaves.type_parts node o)
type_of_use node RawType-F.Missing = tt
type_of_use node (RawType-F.Unknown number) = tt
type_of_use node (RawType-F.Bool nullability) = (refl, tt)
type_of_use node (RawType-F.I8 nullability) = (refl, tt)
type_of_use node (RawType-F.I16 nullability) = (refl, tt)
type_of_use node (RawType-F.I32 nullability) = (refl, tt)
type_of_use node (RawType-F.I64 nullability) = (refl, tt)
type_of_use node (RawType-F.String nullability) = (refl, tt)
type_of_use node (RawType-F.Binary nullability) = (refl, tt)
type_of_use node (RawType-F.Timestamp nullability) = (refl, tt)
type_of_use node (RawType-F.Date nullability) = (refl, tt)
type_of_use node (RawType-F.Decimal scale precision nullability) = (refl, tt)
type_of_use node (RawType-F.Struct types) = (refl, tt)

path_of_use : (path : ItemPath) (item : FileItem) → AreOfUse s.FileItem (leaves.item_parts item.arrow path)
path_of_use path.Missing item = (refl, tt)
path_of_use (path.UriPath uri) item = (tt, (refl, tt))
path_of_use (path.UriFile uri) item = (tt, (refl, tt))

-- each message
pub parts_of_use : (shape : Shape) (node : Node shape) → AreOfUse shape (parts_of shape node)
parts_of_use s.Empty node = tt
parts_of_use s.Plan node = (refl, (refl, (refl, tt)))
parts_of_use s.PlanRel node = (refl, tt)
parts_of_use s.RelRoot node = (refl, (tt, tt))
parts_of_use s.ExtensionUri node = (tt, (tt, tt))
parts_of_use s.ExtensionDeclaration node = (refl, tt)
parts_of_use s.ExtensionFunction node = (tt, (tt, (tt, tt)))
parts_of_use s.Emit node = (refl, tt)
parts_of_use s.NamedStruct node = (tt, (refl, tt))
parts_of_use s.StructType node = (refl, tt)
parts_of_use s.NamedTable node = (tt, tt)
parts_of_use s.VirtualTable node = (refl, (refl, tt))
parts_of_use s.LiteralRow node = (refl, tt)
parts_of_use s.ExpressionRow node = (refl, tt)
parts_of_use s.LocalFiles node = (refl, tt)
parts_of_use s.Grouping node = (refl, (refl, tt))
parts_of_use s.Measure node = (refl, (refl, tt))
parts_of_use s.AggregateFunction node = (tt, (refl, (tt, (refl, (tt, (refl, (refl, tt)))))))
parts_of_use s.SortField node = (refl, (tt, tt))
parts_of_use s.MaskExpression node = (refl, tt)
parts_of_use s.StructSelect node = (refl, tt)
parts_of_use s.StructItem node = (tt, (refl, tt))
parts_of_use s.FunctionOption node = (tt, (tt, tt))
parts_of_use s.ReferenceSegment node = (refl, tt)
parts_of_use s.StructField node = (tt, (refl, tt))
parts_of_use s.IfClause node = (refl, (refl, tt))
parts_of_use s.IfValue node = (refl, (refl, tt))
parts_of_use s.PlainType node = (tt, tt)
parts_of_use s.FileItem node = path_of_use node.path node
parts_of_use s.ReadRel node = read_of_use (out-RawRel node)
parts_of_use s.FilterRel node = filter_of_use (out-RawRel node)
parts_of_use s.FetchRel node = fetch_of_use (out-RawRel node)
parts_of_use s.AggregateRel node = aggregate_of_use (out-RawRel node)
parts_of_use s.SortRel node = sort_of_use (out-RawRel node)
parts_of_use s.JoinRel node = join_of_use (out-RawRel node)
parts_of_use s.ProjectRel node = project_of_use (out-RawRel node)
parts_of_use s.SetRel node = set_of_use (out-RawRel node)
parts_of_use s.CrossRel node = cross_of_use (out-RawRel node)
parts_of_use s.FieldReference node = reference_of_use (out-RawExpr node)
parts_of_use s.ScalarFunction node = scalar_function_of_use (out-RawExpr node)
parts_of_use s.IfThen node = if_then_of_use (out-RawExpr node)
parts_of_use s.SwitchExpression node = switch_of_use (out-RawExpr node)
parts_of_use s.SingularOrList node = singular_or_list_of_use (out-RawExpr node)
parts_of_use s.Cast node = cast_of_use (out-RawExpr node)
parts_of_use s.ScalarSubquery node = scalar_of_use (out-RawExpr node)
parts_of_use s.InPredicate node = in_predicate_of_use (out-RawExpr node)
parts_of_use s.SetPredicate node = set_predicate_of_use (out-RawExpr node)
parts_of_use s.FunctionArgument node = argument_of_use (out-FunctionArgument node)
parts_of_use s.RelCommon node = common_of_use node
parts_of_use s.DecimalLiteral node = decimal_of_use node
parts_of_use s.DecimalType node = decimal_type_of_use node
parts_of_use s.Literal node = literal_of_use node
parts_of_use s.Rel node = rel_of_use node (out-RawRel node)
parts_of_use s.Expression node = expression_of_use node (out-RawExpr node)
parts_of_use s.Subquery node = subquery_of_use node (out-RawExpr node)
parts_of_use s.DataType node = type_of_use node (out-RawType node)
