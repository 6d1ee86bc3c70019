-- The fields of expressions and of what stands in them.
use Rattle.std.specs.Prelude.{ℕ, List, [], ◌∷◌, if◌then◌else◌}
use Rattle.plan_scan.specs.declared.shape.Shape.TheVariants as s
use Rattle.plan_raw.specs.declared.argument.FunctionArgument.{FunctionArgument, FunctionArgument-F, out-FunctionArgument}
use Rattle.plan_raw.specs.declared.aggregate.AggregateFunction.{AggregateFunction}
use Rattle.plan_raw.specs.declared.aggregate.Grouping.{Grouping}
use Rattle.plan_raw.specs.declared.aggregate.Measure.{Measure}
use Rattle.plan_raw.specs.declared.aggregate.SortField.{SortField}
use Rattle.plan_raw.specs.declared.expr.IfClause.{IfClause, out-IfClause}
use Rattle.plan_raw.specs.declared.expr.IfValue.{IfValue, out-IfValue}
use Rattle.plan_raw.specs.declared.expr.RawExpr.{RawExpr, RawExpr-F, out-RawExpr}
use Rattle.plan_raw.specs.declared.rel.RawCount.{RawCount}
use Rattle.plan_raw.specs.declared.rel.RawOffset.{RawOffset}
use Rattle.plan_raw.specs.declared.rel.RawRel.{RawRel}
use Rattle.plan_raw.specs.declared.source.ExprRow.{ExprRow}
use Rattle.plan_raw.specs.declared.source.RawSource.{RawSource}
use Rattle.plan_raw.specs.declared.source.VirtualTable.{VirtualTable}
use Rattle.plan_spell.specs.Held.{Part, uint32, blocks, messages, message, member, presence}

-- one level of a message, with the messages themselves inside it
abbrev pub Opened : (Type 0 → Type 0 → Type 0 → Type 0 → Type 0 → Type 0 → Type 0 → Type 0 → Type 0 → Type 0 → Type 0 → Type 0 → Type 0 → Type 0 → Type 0) → Type 0
Opened Message = Message FunctionArgument RawExpr RawCount RawOffset RawRel RawSource AggregateFunction Grouping Measure SortField IfClause IfValue ExprRow VirtualTable

-- FunctionArgument
abbrev pub argument_parts : Opened FunctionArgument-F → List Part
argument_parts FunctionArgument-F.«FunctionArgument::Missing» = []
argument_parts (FunctionArgument-F.Enum name) = blocks 1 (name ∷ []) ∷ []
argument_parts (FunctionArgument-F.TypeArgument ty) = member 2 s.DataType ty ∷ []
argument_parts (FunctionArgument-F.Value value) = member 3 s.Expression value ∷ []

-- FieldReference; another form of a reference is written as an empty one in field 2
abbrev pub reference_parts : Opened RawExpr-F → List Part
reference_parts (RawExpr-F.Selection direct root other) = message 1 s.ReferenceSegment direct ∷ blocks 2 (if other then [] ∷ [] else []) ∷ presence 4 root ∷ []
reference_parts _ = []

-- Expression.ScalarFunction
abbrev pub scalar_function_parts : Opened RawExpr-F → List Part
scalar_function_parts (RawExpr-F.ScalarFunction reference output arguments options) =
    uint32 1 reference ∷ message 3 s.DataType output ∷ messages 4 s.FunctionArgument arguments ∷ messages 5 s.FunctionOption options ∷ []
scalar_function_parts _ = []

-- Expression.IfThen
abbrev pub if_then_parts : Opened RawExpr-F → List Part
if_then_parts (RawExpr-F.IfThen ifs other) = messages 1 s.IfClause ifs ∷ message 2 s.Expression other ∷ []
if_then_parts _ = []

abbrev pub if_clause_parts : IfClause → List Part
if_clause_parts clause = message 1 s.Expression (out-IfClause clause).if_ ∷ message 2 s.Expression (out-IfClause clause).«then» ∷ []

-- Expression.SwitchExpression
abbrev pub switch_parts : Opened RawExpr-F → List Part
switch_parts (RawExpr-F.SwitchExpression ifs other subject) = messages 1 s.IfValue ifs ∷ message 2 s.Expression other ∷ message 3 s.Expression subject ∷ []
switch_parts _ = []

abbrev pub if_value_parts : IfValue → List Part
if_value_parts value = message 1 s.Literal (out-IfValue value).if_ ∷ message 2 s.Expression (out-IfValue value).«then» ∷ []

-- Expression.SingularOrList
abbrev pub singular_or_list_parts : Opened RawExpr-F → List Part
singular_or_list_parts (RawExpr-F.SingularOrList value options) = message 1 s.Expression value ∷ messages 2 s.Expression options ∷ []
singular_or_list_parts _ = []

-- Expression.Cast
abbrev pub cast_parts : Opened RawExpr-F → List Part
cast_parts (RawExpr-F.Cast ty input failure) = message 1 s.DataType ty ∷ message 2 s.Expression input ∷ uint32 3 failure ∷ []
cast_parts _ = []

-- Expression.Subquery and its members
abbrev pub subquery_parts : RawExpr → Opened RawExpr-F → List Part
subquery_parts expr (RawExpr-F.Scalar input) = member 1 s.ScalarSubquery expr ∷ []
subquery_parts expr (RawExpr-F.InPredicate needles haystack) = member 2 s.InPredicate expr ∷ []
subquery_parts expr (RawExpr-F.SetPredicate op tuples) = member 3 s.SetPredicate expr ∷ []
subquery_parts expr RawExpr-F.SetComparison = blocks 4 ([] ∷ []) ∷ []
subquery_parts expr _ = []

abbrev pub scalar_parts : Opened RawExpr-F → List Part
scalar_parts (RawExpr-F.Scalar input) = message 1 s.Rel input ∷ []
scalar_parts _ = []

abbrev pub in_predicate_parts : Opened RawExpr-F → List Part
in_predicate_parts (RawExpr-F.InPredicate needles haystack) = messages 1 s.Expression needles ∷ message 2 s.Rel haystack ∷ []
in_predicate_parts _ = []

abbrev pub set_predicate_parts : Opened RawExpr-F → List Part
set_predicate_parts (RawExpr-F.SetPredicate op tuples) = uint32 1 op ∷ message 2 s.Rel tuples ∷ []
set_predicate_parts _ = []

-- Expression
abbrev pub expression_parts : RawExpr → Opened RawExpr-F → List Part
expression_parts expr (RawExpr-F.Literal literal) = member 1 s.Literal literal ∷ []
expression_parts expr (RawExpr-F.Selection direct root other) = member 2 s.FieldReference expr ∷ []
expression_parts expr (RawExpr-F.ScalarFunction reference output arguments options) = member 3 s.ScalarFunction expr ∷ []
expression_parts expr (RawExpr-F.IfThen ifs other) = member 6 s.IfThen expr ∷ []
expression_parts expr (RawExpr-F.SwitchExpression ifs other subject) = member 7 s.SwitchExpression expr ∷ []
expression_parts expr (RawExpr-F.SingularOrList value options) = member 8 s.SingularOrList expr ∷ []
expression_parts expr (RawExpr-F.Cast ty input failure) = member 11 s.Cast expr ∷ []
expression_parts expr RawExpr-F.«RawExpr::Missing» = []
expression_parts expr (RawExpr-F.«RawExpr::Unknown» number) = []
expression_parts expr _ = member 12 s.Subquery expr ∷ []
