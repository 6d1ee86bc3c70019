-- Each field of a message stands once, under a number that can be written.
use Rattle.std.proofs.Common.{◌≡◌, refl, ℕ, List, [], ◌∷◌, true}
use Rattle.plan_spell.proofs.HeldLaws.{are_numbered}
use Rattle.plan_scan.specs.declared.shape.Shape.{Shape}
use Rattle.plan_scan.specs.declared.shape.Shape.TheVariants as s
use Rattle.plan_leaves.specs.declared.common.RelCommon.{RelCommon}
use Rattle.plan_leaves.specs.declared.common.RelCommon.TheVariants as common
use Rattle.plan_leaves.specs.declared.files.FileItem.{FileItem}
use Rattle.plan_leaves.specs.declared.files.ItemPath.{ItemPath}
use Rattle.plan_leaves.specs.declared.files.ItemPath.TheVariants as path
use Rattle.plan_leaves.specs.declared.literal.RawLiteral.{RawLiteral}
use Rattle.plan_leaves.specs.declared.literal.RawLiteral.TheVariants as l
use Rattle.plan_leaves.specs.declared.types.RawType.{RawType, RawType-F, out-RawType}
use Rattle.plan_leaves.specs.declared.types.RawType.TheVariants as t
use Rattle.plan_raw.specs.declared.aggregate.AggregateFunction.{out-AggregateFunction}
use Rattle.plan_raw.specs.declared.argument.FunctionArgument.{FunctionArgument-F, out-FunctionArgument}
use Rattle.plan_raw.specs.declared.expr.RawExpr.{RawExpr, RawExpr-F, out-RawExpr}
use Rattle.plan_raw.specs.declared.rel.RawRel.{RawRel, RawRel-F, out-RawRel}
use Rattle.plan_spell.specs.Nodes.{Node}
use Rattle.plan_spell.specs.Leaves as leaves
use Rattle.plan_spell.specs.Exprs as exprs
use Rattle.plan_spell.specs.Exprs.{Opened}
use Rattle.plan_spell.specs.Rels as rels
use Rattle.plan_spell.specs.Parts.{parts_of}

read_are_numbered : (o : Opened RawRel-F) → are_numbered (rels.read_parts o) ≡ true
read_are_numbered (RawRel-F.Read common schema filter projection source best) = refl
read_are_numbered _ = refl

filter_are_numbered : (o : Opened RawRel-F) → are_numbered (rels.filter_parts o) ≡ true
filter_are_numbered (RawRel-F.Filter common input condition) = refl
filter_are_numbered _ = refl

fetch_are_numbered : (o : Opened RawRel-F) → are_numbered (rels.fetch_parts o) ≡ true
fetch_are_numbered (RawRel-F.Fetch common input offset count) = refl
fetch_are_numbered _ = refl

aggregate_are_numbered : (o : Opened RawRel-F) → are_numbered (rels.aggregate_parts o) ≡ true
aggregate_are_numbered (RawRel-F.Aggregate common input groupings measures exprs) = refl
aggregate_are_numbered _ = refl

sort_are_numbered : (o : Opened RawRel-F) → are_numbered (rels.sort_parts o) ≡ true
sort_are_numbered (RawRel-F.Sort common input sorts) = refl
sort_are_numbered _ = refl

join_are_numbered : (o : Opened RawRel-F) → are_numbered (rels.join_parts o) ≡ true
join_are_numbered (RawRel-F.Join common left right condition post type) = refl
join_are_numbered _ = refl

project_are_numbered : (o : Opened RawRel-F) → are_numbered (rels.project_parts o) ≡ true
project_are_numbered (RawRel-F.Project common input exprs) = refl
project_are_numbered _ = refl

set_are_numbered : (o : Opened RawRel-F) → are_numbered (rels.set_parts o) ≡ true
set_are_numbered (RawRel-F.Set common inputs op) = refl
set_are_numbered _ = refl

cross_are_numbered : (o : Opened RawRel-F) → are_numbered (rels.cross_parts o) ≡ true
cross_are_numbered (RawRel-F.Cross common left right) = refl
cross_are_numbered _ = refl

reference_are_numbered : (o : Opened RawExpr-F) → are_numbered (exprs.reference_parts o) ≡ true
reference_are_numbered (RawExpr-F.Selection direct root other) = refl
reference_are_numbered _ = refl

scalar_function_are_numbered : (o : Opened RawExpr-F) → are_numbered (exprs.scalar_function_parts o) ≡ true
scalar_function_are_numbered (RawExpr-F.ScalarFunction reference output arguments options) = refl
scalar_function_are_numbered _ = refl

if_then_are_numbered : (o : Opened RawExpr-F) → are_numbered (exprs.if_then_parts o) ≡ true
if_then_are_numbered (RawExpr-F.IfThen ifs other) = refl
if_then_are_numbered _ = refl

switch_are_numbered : (o : Opened RawExpr-F) → are_numbered (exprs.switch_parts o) ≡ true
switch_are_numbered (RawExpr-F.SwitchExpression ifs other subject) = refl
switch_are_numbered _ = refl

singular_or_list_are_numbered : (o : Opened RawExpr-F) → are_numbered (exprs.singular_or_list_parts o) ≡ true
singular_or_list_are_numbered (RawExpr-F.SingularOrList value options) = refl
singular_or_list_are_numbered _ = refl

cast_are_numbered : (o : Opened RawExpr-F) → are_numbered (exprs.cast_parts o) ≡ true
cast_are_numbered (RawExpr-F.Cast ty input failure) = refl
cast_are_numbered _ = refl

scalar_are_numbered : (o : Opened RawExpr-F) → are_numbered (exprs.scalar_parts o) ≡ true
scalar_are_numbered (RawExpr-F.Scalar input) = refl
scalar_are_numbered _ = refl

in_predicate_are_numbered : (o : Opened RawExpr-F) → are_numbered (exprs.in_predicate_parts o) ≡ true
in_predicate_are_numbered (RawExpr-F.InPredicate needles haystack) = refl
in_predicate_are_numbered _ = refl

set_predicate_are_numbered : (o : Opened RawExpr-F) → are_numbered (exprs.set_predicate_parts o) ≡ true
set_predicate_are_numbered (RawExpr-F.SetPredicate op tuples) = refl
set_predicate_are_numbered _ = refl

argument_are_numbered : (o : Opened FunctionArgument-F) → are_numbered (exprs.argument_parts o) ≡ true
argument_are_numbered FunctionArgument-F.«FunctionArgument::Missing» = refl
argument_are_numbered (FunctionArgument-F.Enum name) = refl
argument_are_numbered (FunctionArgument-F.TypeArgument ty) = refl
argument_are_numbered (FunctionArgument-F.Value value) = refl

common_are_numbered : (o : RelCommon) → are_numbered (leaves.common_parts o) ≡ true
common_are_numbered common.Missing = refl
common_are_numbered common.Direct = refl
common_are_numbered (common.Emit mapping) = refl

decimal_are_numbered : (o : RawLiteral) → are_numbered (leaves.decimal_parts o) ≡ true
decimal_are_numbered (l.Decimal value precision scale nullable) = refl
decimal_are_numbered _ = refl

decimal_type_are_numbered : (o : RawType) → are_numbered (leaves.decimal_type_parts o) ≡ true
decimal_type_are_numbered (t.Decimal scale precision nullability) = refl
decimal_type_are_numbered _ = refl

literal_are_numbered : (o : RawLiteral) → are_numbered (leaves.literal_parts o) ≡ true
literal_are_numbered l.Missing = refl
literal_are_numbered (l.Unknown number) = refl
literal_are_numbered (l.Boolean value nullable) = refl
literal_are_numbered (l.I8 value nullable) = refl
literal_are_numbered (l.I16 value nullable) = refl
literal_are_numbered (l.I32 value nullable) = refl
literal_are_numbered (l.I64 value nullable) = refl
literal_are_numbered (l.String value nullable) = refl
literal_are_numbered (l.Binary value nullable) = refl
literal_are_numbered (l.Timestamp value nullable) = refl
literal_are_numbered (l.Date value nullable) = refl
literal_are_numbered (l.Decimal value precision scale nullable) = refl
literal_are_numbered (l.Null ty nullable) = refl

rel_are_numbered : (node : RawRel) (o : Opened RawRel-F) → are_numbered (rels.rel_parts node o) ≡ true
rel_are_numbered node RawRel-F.«RawRel::Missing» = refl
rel_are_numbered node (RawRel-F.«RawRel::Unknown» number) = refl
rel_are_numbered node (RawRel-F.Read common schema filter projection source best) = refl
rel_are_numbered node (RawRel-F.Filter common input condition) = refl
rel_are_numbered node (RawRel-F.Fetch common input offset count) = refl
rel_are_numbered node (RawRel-F.Aggregate common input groupings measures exprs) = refl
rel_are_numbered node (RawRel-F.Sort common input sorts) = refl
rel_are_numbered node (RawRel-F.Join common left right condition post type) = refl
rel_are_numbered node (RawRel-F.Project common input exprs) = refl
rel_are_numbered node (RawRel-F.Set common inputs op) = refl
rel_are_numbered node (RawRel-F.Cross common left right) = refl

expression_are_numbered : (node : RawExpr) (o : Opened RawExpr-F) → are_numbered (exprs.expression_parts node o) ≡ true
expression_are_numbered node RawExpr-F.«RawExpr::Missing» = refl
expression_are_numbered node (RawExpr-F.«RawExpr::Unknown» number) = refl
expression_are_numbered node (RawExpr-F.Literal literal) = refl
expression_are_numbered node (RawExpr-F.Selection direct root other) = refl
expression_are_numbered node (RawExpr-F.ScalarFunction reference output arguments options) = refl
expression_are_numbered node (RawExpr-F.IfThen ifs other) = refl
expression_are_numbered node (RawExpr-F.SwitchExpression ifs other subject) = refl
expression_are_numbered node (RawExpr-F.SingularOrList value options) = refl
expression_are_numbered node (RawExpr-F.Cast ty input failure) = refl
expression_are_numbered node RawExpr-F.SubqueryMissing = refl
expression_are_numbered node (RawExpr-F.SubqueryUnknown number) = refl
expression_are_numbered node (RawExpr-F.Scalar input) = refl
expression_are_numbered node (RawExpr-F.InPredicate needles haystack) = refl
expression_are_numbered node (RawExpr-F.SetPredicate op tuples) = refl
expression_are_numbered node RawExpr-F.SetComparison = refl

subquery_are_numbered : (node : RawExpr) (o : Opened RawExpr-F) → are_numbered (exprs.subquery_parts node o) ≡ true
subquery_are_numbered node (RawExpr-F.Scalar input) = refl
subquery_are_numbered node (RawExpr-F.InPredicate needles haystack) = refl
subquery_are_numbered node (RawExpr-F.SetPredicate op tuples) = refl
subquery_are_numbered node RawExpr-F.SetComparison = refl
subquery_are_numbered node _ = refl

type_are_numbered : (node : RawType) (o : RawType-F RawType) → are_numbered (leaves.type_parts node o) ≡ true
type_are_numbered node RawType-F.Missing = refl
type_are_numbered node (RawType-F.Unknown number) = refl
type_are_numbered node (RawType-F.Bool nullability) = refl
type_are_numbered node (RawType-F.I8 nullability) = refl
type_are_numbered node (RawType-F.I16 nullability) = refl
type_are_numbered node (RawType-F.I32 nullability) = refl
type_are_numbered node (RawType-F.I64 nullability) = refl
type_are_numbered node (RawType-F.String nullability) = refl
type_are_numbered node (RawType-F.Binary nullability) = refl
type_are_numbered node (RawType-F.Timestamp nullability) = refl
type_are_numbered node (RawType-F.Date nullability) = refl
type_are_numbered node (RawType-F.Decimal scale precision nullability) = refl
type_are_numbered node (RawType-F.Struct types) = refl

path_are_numbered : (path : ItemPath) (item : FileItem) → are_numbered (leaves.item_parts item.arrow path) ≡ true
path_are_numbered path.Missing item = refl
path_are_numbered (path.UriPath uri) item = refl
path_are_numbered (path.UriFile uri) item = refl

-- each message
pub parts_are_numbered : (shape : Shape) (node : Node shape) → are_numbered (parts_of shape node) ≡ true
parts_are_numbered s.Empty node = refl
parts_are_numbered s.Plan node = refl
parts_are_numbered s.PlanRel node = refl
parts_are_numbered s.RelRoot node = refl
parts_are_numbered s.ExtensionUri node = refl
parts_are_numbered s.ExtensionDeclaration node = refl
parts_are_numbered s.ExtensionFunction node = refl
parts_are_numbered s.Emit node = refl
parts_are_numbered s.NamedStruct node = refl
parts_are_numbered s.StructType node = refl
parts_are_numbered s.NamedTable node = refl
parts_are_numbered s.VirtualTable node = refl
parts_are_numbered s.LiteralRow node = refl
parts_are_numbered s.ExpressionRow node = refl
parts_are_numbered s.LocalFiles node = refl
parts_are_numbered s.Grouping node = refl
parts_are_numbered s.Measure node = refl
parts_are_numbered s.AggregateFunction node = refl
parts_are_numbered s.SortField node = refl
parts_are_numbered s.MaskExpression node = refl
parts_are_numbered s.StructSelect node = refl
parts_are_numbered s.StructItem node = refl
parts_are_numbered s.FunctionOption node = refl
parts_are_numbered s.ReferenceSegment node = refl
parts_are_numbered s.StructField node = refl
parts_are_numbered s.IfClause node = refl
parts_are_numbered s.IfValue node = refl
parts_are_numbered s.PlainType node = refl
parts_are_numbered s.FileItem node = path_are_numbered node.path node
parts_are_numbered s.ReadRel node = read_are_numbered (out-RawRel node)
parts_are_numbered s.FilterRel node = filter_are_numbered (out-RawRel node)
parts_are_numbered s.FetchRel node = fetch_are_numbered (out-RawRel node)
parts_are_numbered s.AggregateRel node = aggregate_are_numbered (out-RawRel node)
parts_are_numbered s.SortRel node = sort_are_numbered (out-RawRel node)
parts_are_numbered s.JoinRel node = join_are_numbered (out-RawRel node)
parts_are_numbered s.ProjectRel node = project_are_numbered (out-RawRel node)
parts_are_numbered s.SetRel node = set_are_numbered (out-RawRel node)
parts_are_numbered s.CrossRel node = cross_are_numbered (out-RawRel node)
parts_are_numbered s.FieldReference node = reference_are_numbered (out-RawExpr node)
parts_are_numbered s.ScalarFunction node = scalar_function_are_numbered (out-RawExpr node)
parts_are_numbered s.IfThen node = if_then_are_numbered (out-RawExpr node)
parts_are_numbered s.SwitchExpression node = switch_are_numbered (out-RawExpr node)
parts_are_numbered s.SingularOrList node = singular_or_list_are_numbered (out-RawExpr node)
parts_are_numbered s.Cast node = cast_are_numbered (out-RawExpr node)
parts_are_numbered s.ScalarSubquery node = scalar_are_numbered (out-RawExpr node)
parts_are_numbered s.InPredicate node = in_predicate_are_numbered (out-RawExpr node)
parts_are_numbered s.SetPredicate node = set_predicate_are_numbered (out-RawExpr node)
parts_are_numbered s.FunctionArgument node = argument_are_numbered (out-FunctionArgument node)
parts_are_numbered s.RelCommon node = common_are_numbered node
parts_are_numbered s.DecimalLiteral node = decimal_are_numbered node
parts_are_numbered s.DecimalType node = decimal_type_are_numbered node
parts_are_numbered s.Literal node = literal_are_numbered node
parts_are_numbered s.Rel node = rel_are_numbered node (out-RawRel node)
parts_are_numbered s.Expression node = expression_are_numbered node (out-RawExpr node)
parts_are_numbered s.Subquery node = subquery_are_numbered node (out-RawExpr node)
parts_are_numbered s.DataType node = type_are_numbered node (out-RawType node)
