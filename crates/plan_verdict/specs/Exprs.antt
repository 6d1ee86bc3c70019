-- The checks of expressions (Substrait `Expression`).
use Rattle.std.specs.Prelude.{ℕ, List, [], ◌∷◌, ◌++◌, Bool, true, false, Option, Some, None, ◌&&◌, ◌||◌, not, ◌==◌, map, length, is_some, nat_le}
use Rattle.std.specs.List.{list_all, zip}
use Rattle.std.specs.Option.{ok_or}
use Rattle.sub_types.specs.declared.kind.Kind.{Kind}
use Rattle.sub_types.specs.declared.kind.Kind.TheVariants as kinds
use Rattle.sub_types.specs.declared.kind.Ty.{Ty}
use Rattle.sub_types.specs.declared.value.Value.TheVariants as values
use Rattle.plan_leaves.specs.declared.literal.RawLiteral.{RawLiteral}
use Rattle.plan_leaves.specs.declared.options.FunctionOption.{FunctionOption}
use Rattle.plan_leaves.specs.declared.types.RawType.{RawType}
use Rattle.plan_raw.specs.declared.argument.FunctionArgument.{FunctionArgument-F}
use Rattle.plan_raw.specs.declared.expr.IfClause.{IfClause-F}
use Rattle.plan_raw.specs.declared.expr.IfValue.{IfValue-F}
use Rattle.plan_raw.specs.declared.expr.RawExpr.{RawExpr-F}
use Rattle.plan_typed.specs.declared.expr.Expr.{Expr}
use Rattle.plan_typed.specs.declared.expr.Expr.TheVariants as exprs
use Rattle.plan_typed.specs.declared.rel.Rel.{Rel}
use Rattle.plan_typed.specs.declared.sub.SubKind.{SubKind}
use Rattle.plan_typed.specs.declared.sub.SubKind.TheVariants as sub_kinds
use Rattle.plan_typed.specs.Types.{ty_of, columns_of}
use Rattle.func_table.specs.declared.row.Class.TheVariants.{Scalar}
use Rattle.func_table.specs.Kinds.{is_equal}
pub use Rattle.well_typed.specs.Types.{kind_of, type_with, some_nullable}
use Rattle.plan_verdict.specs.declared.rule.Rule.TheVariants as rules
use Rattle.plan_verdict.specs.Calls.{Declared, named_in, call_in}
use Rattle.plan_verdict.specs.Casts.{can_cast}
use Rattle.plan_verdict.specs.Checking.{Checking, ◌>>=◌, ◌>>◌, accept, refuse, part, must, present, next_node, done, in_order}
use Rattle.plan_verdict.specs.Literals.{constant_in, values_of_kind}
use Rattle.plan_verdict.specs.References.{selection_in}
use Rattle.plan_verdict.specs.Meaning.{Scope, Expression, Arm, Checked}
use Rattle.plan_verdict.specs.Relation.{input as relation_input}
use Rattle.plan_verdict.specs.Types.{type_in}
use Rattle.plan_verdict.specs.Lists.{is_empty, only}

-- what a plan is checked under: the functions that it declares, and whether subqueries are taken
pub record Terms : Type 0 where
  pub declared : Declared
  pub with_subqueries : Bool

-- an expression that must be there
abbrev pub required : Scope → Option Expression → Checking Expr
required scope expression = do
  written ← present scope.relation expression
  written.check scope

-- the expression must be of the kind
abbrev pub must_be : Scope → Kind → Expr → Checking (Unit {0})
must_be scope kind expr = must scope.relation (is_equal (kind_of expr) kind) rules.TypeMismatch

-- a condition
abbrev pub condition : Scope → Option Expression → Checking Expr
condition scope expression = do
  expr ← required scope expression
  must_be scope kinds.Bool expr
  accept expr

-- each of these expressions
abbrev pub each_in : Scope → List Expression → Checking (List Expr)
each_in scope expressions = in_order (map (λ expression. expression.check scope) expressions)

-- the arguments of a function, each of which is a value
abbrev pub argument : Scope → Option Expression → Checking Expr
argument scope (Some value) = value.check scope
argument scope None = refuse scope.relation rules.UnsupportedForm

abbrev pub arguments : Scope → List (Option Expression) → Checking (List Expr)
arguments scope written = in_order (map (argument scope) written)

-- ScalarFunction
abbrev pub scalar_function : Terms → Scope → ℕ → Option RawType → List (Option Expression) → List FunctionOption → Checking Expr
scalar_function terms scope reference output written options = do
  named ← part scope.relation (named_in terms.declared Scalar reference)
  args ← arguments scope written
  call ← part scope.relation (call_in named Scalar (map ty_of args) output options)
  accept (exprs.Call call.func call.mode args call.ty)

-- null of a kind
abbrev pub null_of : Kind → Expr
null_of kind = exprs.Const values.Null (type_with kind true)

-- the else of an if-then or a switch: null of the kind where it is absent
abbrev pub otherwise : Scope → Kind → Option Expression → Checking Expr
otherwise scope kind (Some written) = written.check scope
otherwise scope kind None = do
  next_node
  accept (null_of kind)

-- all are of the kind of the first
abbrev pub are_alike : List Expr → Bool
are_alike [] = true
are_alike (first ∷ rest) = list_all (λ expr. is_equal (kind_of expr) (kind_of first)) rest

-- the kind of the first
abbrev pub first_kind : List Expr → Kind
first_kind (first ∷ _) = kind_of first
first_kind [] = kinds.Bool

-- the type of what is one of these values
abbrev pub type_among : List Expr → Ty
type_among values = type_with (first_kind values) (some_nullable values)

-- IfClause
abbrev pub if_clause : Option Expression → Option Expression → Scope → Checking (Expr × Expr)
if_clause when value scope = do
  test ← condition scope when
  result ← required scope value
  accept (test, result)

-- IfThen: the clauses, then the else, and then the kinds of the values
abbrev pub if_then : Scope → List (Scope → Checking (Expr × Expr)) → Option Expression → Checking Expr
if_then scope ifs other_arm = do
  must scope.relation (not (is_empty ifs)) rules.MissingField
  arms ← in_order (map (λ clause. clause scope) ifs)
  let values = map (λ (arm : Expr × Expr). arm.1) arms
  other ← otherwise scope (first_kind values) other_arm
  must scope.relation (are_alike (values ++ other ∷ [])) rules.TypeMismatch
  accept (exprs.If arms other (type_among (values ++ other ∷ [])))

-- SwitchExpression: the subject, then each literal, then each value, then the else, and then the kinds of the values
abbrev pub switch : Scope → List Arm → Option Expression → Option Expression → Checking Expr
switch scope ifs other_arm match = do
  must scope.relation (is_some match && not (is_empty ifs)) rules.MissingField
  subject ← required scope match
  literals ← part scope.relation (values_of_kind (kind_of subject) (map (λ arm. arm.literal) ifs))
  values ← in_order (map (λ arm. required scope arm.value) ifs)
  other ← otherwise scope (first_kind values) other_arm
  must scope.relation (are_alike (values ++ other ∷ [])) rules.TypeMismatch
  accept (exprs.Switch subject (zip literals values) other (type_among (values ++ other ∷ [])))

-- an option of a singular-or-list, of the value's kind
abbrev pub option_of_kind : Scope → Kind → Expression → Checking Expr
option_of_kind scope kind written = do
  expr ← written.check scope
  must_be scope kind expr
  accept expr

-- SingularOrList
abbrev pub singular_or_list : Scope → Option Expression → List Expression → Checking Expr
singular_or_list scope value options = do
  subject ← required scope value
  others ← in_order (map (option_of_kind scope (kind_of subject)) options)
  accept (exprs.OneOf subject others (type_with kinds.Bool (some_nullable (subject ∷ others))))

-- Cast: failure behavior 1 gives null, 0 and 2 a fault
abbrev pub cast : Scope → Option RawType → Option Expression → ℕ → Checking Expr
cast scope type input failure = do
  raw ← present scope.relation type
  expr ← required scope input
  ty ← part scope.relation (type_in raw)
  must scope.relation (can_cast (kind_of expr) ty.kind) rules.BadArguments
  must scope.relation (nat_le failure 2) rules.UnsupportedForm
  accept (exprs.Cast expr (failure == 1) (type_with ty.kind ((ty_of expr).nullable || failure == 1)))

-- the relation of a subquery, which must be so
abbrev pub subquery : Scope → ℕ → SubKind → (List Ty → Bool) → Option (ℕ → Checking Rel) → Checking (List Ty)
subquery scope node kind fits input = do
  rel ← relation_input scope.relation input
  must scope.relation (fits (columns_of rel)) rules.TypeMismatch
  done (record { rel = rel; kind = kind; hole = record { relation = scope.relation; node = node } })
  accept (columns_of rel)

-- one column
abbrev pub is_single : List Ty → Bool
is_single columns = length columns == 1

-- one column of this kind
abbrev pub is_single_of : Kind → List Ty → Bool
is_single_of kind (column ∷ []) = is_equal column.kind kind
is_single_of kind _ = false

-- the type of the first column
abbrev pub first_column : List Ty → Ty
first_column (column ∷ _) = column
first_column [] = type_with kinds.Bool false

-- Subquery.Scalar: null of the column's kind stands in its place
abbrev pub scalar : Scope → ℕ → Option (ℕ → Checking Rel) → Checking Expr
scalar scope node input = do
  columns ← subquery scope node sub_kinds.Scalar is_single input
  accept (null_of (first_column columns).kind)

-- Subquery.InPredicate: a list without options stands in its place
abbrev pub in_predicate : Scope → ℕ → List Expression → Option (ℕ → Checking Rel) → Checking Expr
in_predicate scope node needles haystack = do
  needle ← part scope.relation (ok_or (only needles) rules.UnsupportedForm)
  expr ← needle.check scope
  columns ← subquery scope node sub_kinds.In (is_single_of (kind_of expr)) haystack
  accept (exprs.OneOf expr [] (type_with kinds.Bool ((ty_of expr).nullable || (first_column columns).nullable)))

-- Subquery.SetPredicate: false stands in the place of EXISTS, which is predicate 1
abbrev pub set_predicate : Scope → ℕ → ℕ → Option (ℕ → Checking Rel) → Checking Expr
set_predicate scope node predicate tuples = do
  must scope.relation (predicate == 1) rules.UnsupportedForm
  subquery scope node sub_kinds.Exists (λ _. true) tuples
  accept (exprs.Const (values.Bool false) (type_with kinds.Bool false))

-- a check of subqueries alone, where they are taken
abbrev pub where_taken : Terms → Scope → Checking Expr → Checking Expr
where_taken terms scope check = do
  must scope.relation terms.with_subqueries rules.UnsupportedForm
  check

-- Expression, by its member; the expression has this number
abbrev pub member : Terms → Scope → ℕ → Checked RawExpr-F → Checking Expr
member terms scope node RawExpr-F.«RawExpr::Missing» = refuse scope.relation rules.MissingField
member terms scope node (RawExpr-F.«RawExpr::Unknown» number) = refuse scope.relation rules.UnsupportedForm
member terms scope node (RawExpr-F.Literal raw) = part scope.relation (constant_in raw)
member terms scope node (RawExpr-F.Selection direct root other) = part scope.relation (selection_in scope.columns direct other)
member terms scope node (RawExpr-F.ScalarFunction reference output arguments options) = scalar_function terms scope reference output arguments options
member terms scope node (RawExpr-F.IfThen ifs other_arm) = if_then scope ifs other_arm
member terms scope node (RawExpr-F.SwitchExpression ifs other_arm match) = switch scope ifs other_arm match
member terms scope node (RawExpr-F.SingularOrList value options) = singular_or_list scope value options
member terms scope node (RawExpr-F.Cast type input failure) = cast scope type input failure
member terms scope node RawExpr-F.SubqueryMissing = where_taken terms scope (refuse scope.relation rules.MissingField)
member terms scope node (RawExpr-F.SubqueryUnknown number) = refuse scope.relation rules.UnsupportedForm
member terms scope node (RawExpr-F.Scalar input) = where_taken terms scope (scalar scope node input)
member terms scope node (RawExpr-F.InPredicate needles haystack) = where_taken terms scope (in_predicate scope node needles haystack)
member terms scope node (RawExpr-F.SetPredicate predicate tuples) = where_taken terms scope (set_predicate scope node predicate tuples)
member terms scope node RawExpr-F.SetComparison = refuse scope.relation rules.UnsupportedForm

-- an expression has the next number, before those inside it
abbrev pub numbered : Terms → Checked RawExpr-F → Scope → Checking Expr
numbered terms level scope = do
  node ← next_node
  member terms scope node level

-- the literal that an expression is
abbrev pub literal_of : Checked RawExpr-F → Option RawLiteral
literal_of (RawExpr-F.Literal raw) = Some raw
literal_of _ = None

abbrev pub expression : Terms → Checked RawExpr-F → Expression
expression terms level = record { check = numbered terms level; literal = literal_of level }

-- FunctionArgument: an expression, if it is a value
abbrev pub function_argument : Checked FunctionArgument-F → Option Expression
function_argument (FunctionArgument-F.Value value) = Some value
function_argument _ = None

-- IfClause and IfValue
abbrev pub clause : Checked IfClause-F → Scope → Checking (Expr × Expr)
clause one = if_clause one.if_ one.«then»

abbrev pub arm : Checked IfValue-F → Arm
arm one = record { literal = one.if_; value = one.«then» }
