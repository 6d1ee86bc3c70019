-- The verdict on a plan: the first refusal, or the checked plan (Substrait `Plan`).
use Rattle.std.specs.Prelude.{◌≡◌, ℕ, ℤ, Option, List, [], Bool, Result, Ok, Err, ◌==◌, length, nat_le}
use Rattle.std.specs.Option.{ok_or}
use Rattle.plan_raw.specs.declared.argument.FunctionArgument.{FunctionArgument, fold-FunctionArgument}
use Rattle.plan_raw.specs.declared.expr.RawExpr.{RawExpr, fold-RawExpr}
use Rattle.plan_raw.specs.declared.rel.RawCount.{RawCount, fold-RawCount}
use Rattle.plan_raw.specs.declared.rel.RawOffset.{RawOffset, fold-RawOffset}
use Rattle.plan_raw.specs.declared.rel.RawRel.{RawRel, RawRel-F, fold-RawRel}
use Rattle.plan_raw.specs.declared.source.RawSource.{RawSource, fold-RawSource}
use Rattle.plan_raw.specs.declared.aggregate.AggregateFunction.{AggregateFunction, fold-AggregateFunction}
use Rattle.plan_raw.specs.declared.aggregate.Grouping.{Grouping, fold-Grouping}
use Rattle.plan_raw.specs.declared.aggregate.Measure.{Measure, fold-Measure}
use Rattle.plan_raw.specs.declared.aggregate.SortField.{SortField, fold-SortField}
use Rattle.plan_raw.specs.declared.expr.IfClause.{IfClause, fold-IfClause}
use Rattle.plan_raw.specs.declared.expr.IfValue.{IfValue, fold-IfValue}
use Rattle.plan_raw.specs.declared.source.ExprRow.{ExprRow, ExprRow-F, fold-ExprRow}
use Rattle.plan_raw.specs.declared.source.VirtualTable.{VirtualTable, VirtualTable-F, fold-VirtualTable}
use Rattle.plan_raw.specs.declared.plan.PlanTree.{PlanTree}
use Rattle.plan_raw.specs.declared.plan.RootDecl.{RootDecl}
use Rattle.plan_typed.specs.declared.expr.Expr.{Expr}
use Rattle.plan_typed.specs.declared.rel.Rel.{Rel}
use Rattle.plan_typed.specs.declared.rel.Typed.{Typed}
use Rattle.sub_types.specs.declared.kind.Ty.{Ty}
use Rattle.plan_typed.specs.declared.sub.Holed.{Holed}
use Rattle.plan_typed.specs.Types.{columns_of}
use Rattle.plan_tree.specs.Numbering.{relation_count}
use Rattle.plan_verdict.specs.declared.progress.Progress.{Progress}
use Rattle.plan_verdict.specs.declared.rule.CheckError.{CheckError}
use Rattle.plan_verdict.specs.declared.rule.CheckError.TheVariants as errors
use Rattle.plan_verdict.specs.declared.rule.Rule.TheVariants as rules
use Rattle.plan_verdict.specs.Aggregates.{aggregate, aggregate_function, measure, grouping}
use Rattle.plan_verdict.specs.Checking.{Checking, Refusal, ◌>>=◌, ◌>>◌, accept, refuse, part, must, present}
use Rattle.plan_verdict.specs.Exprs.{Terms, expression, function_argument, clause, arm}
use Rattle.plan_verdict.specs.Meaning.{Scope, Expression, Aggregation, Sets, Arm, Checked}
use Rattle.plan_typed.specs.declared.rel.SetMeasure.{SetMeasure}
use Rattle.plan_typed.specs.declared.rel.SortKey.{SortKey}
use Rattle.plan_typed.specs.declared.rel.Source.{Source}
use Rattle.plan_verdict.specs.Reads.{source_in, rows_in}
use Rattle.plan_verdict.specs.Relation.{numbered}
use Rattle.plan_verdict.specs.Rels.{read, filter, fetch, sort, join, project, set, cross, offset, count, sort_field}
use Rattle.plan_verdict.specs.Lists.{only}

-- the most relations of a plan
abbrev pub MAX_RELATIONS : ℕ
MAX_RELATIONS = 1000

-- Rel, by its member; the relation has this number
abbrev pub member : Checked RawRel-F → ℕ → Checking Rel
member RawRel-F.«RawRel::Missing» number = refuse number rules.MissingField
member (RawRel-F.«RawRel::Unknown» unknown) number = refuse number (rules.UnknownRelation unknown)
member (RawRel-F.Read common schema filter projection source best_effort_filter) number = read number common schema filter projection source
member (RawRel-F.Filter common input condition) number = filter number common input condition
member (RawRel-F.Fetch common input offset count) number = fetch number common input offset count
member (RawRel-F.Aggregate common input groupings measures expressions) number = aggregate number common input groupings measures expressions
member (RawRel-F.Sort common input sorts) number = sort number common input sorts
member (RawRel-F.Join common left right expression post_join_filter type) number = join number common left right expression post_join_filter type
member (RawRel-F.Project common input expressions) number = project number common input expressions
member (RawRel-F.Set common inputs op) number = set number common inputs op
member (RawRel-F.Cross common left right) number = cross number common left right

-- ExprRow and VirtualTable
abbrev pub row : Checked ExprRow-F → List Expression
row one = one.fields

abbrev pub table : Checked VirtualTable-F → ℕ → List Ty → Checking (List (List Expr))
table one = rows_in one.values one.expressions

-- what each message is checked as under these terms
unfoldable pub checked_argument : Terms → FunctionArgument → Option Expression
checked_argument terms =
    fold-FunctionArgument _ _ _ _ _ _ _ _ _ _ _ _ _ _
    function_argument (expression terms) count offset member source_in (aggregate_function terms) grouping measure sort_field clause arm row table

unfoldable pub checked_expr : Terms → RawExpr → Expression
checked_expr terms =
    fold-RawExpr _ _ _ _ _ _ _ _ _ _ _ _ _ _
    function_argument (expression terms) count offset member source_in (aggregate_function terms) grouping measure sort_field clause arm row table

unfoldable pub checked_count : Terms → RawCount → Option (Option ℤ)
checked_count terms =
    fold-RawCount _ _ _ _ _ _ _ _ _ _ _ _ _ _
    function_argument (expression terms) count offset member source_in (aggregate_function terms) grouping measure sort_field clause arm row table

unfoldable pub checked_offset : Terms → RawOffset → Option (Option ℤ)
checked_offset terms =
    fold-RawOffset _ _ _ _ _ _ _ _ _ _ _ _ _ _
    function_argument (expression terms) count offset member source_in (aggregate_function terms) grouping measure sort_field clause arm row table

unfoldable pub checked_rel : Terms → RawRel → (ℕ → Checking Rel)
checked_rel terms =
    fold-RawRel _ _ _ _ _ _ _ _ _ _ _ _ _ _
    function_argument (expression terms) count offset member source_in (aggregate_function terms) grouping measure sort_field clause arm row table

unfoldable pub checked_source : Terms → RawSource → (ℕ → List Ty → Checking Source)
checked_source terms =
    fold-RawSource _ _ _ _ _ _ _ _ _ _ _ _ _ _
    function_argument (expression terms) count offset member source_in (aggregate_function terms) grouping measure sort_field clause arm row table

unfoldable pub checked_function : Terms → AggregateFunction → Aggregation
checked_function terms =
    fold-AggregateFunction _ _ _ _ _ _ _ _ _ _ _ _ _ _
    function_argument (expression terms) count offset member source_in (aggregate_function terms) grouping measure sort_field clause arm row table

unfoldable pub checked_grouping : Terms → Grouping → Sets
checked_grouping terms =
    fold-Grouping _ _ _ _ _ _ _ _ _ _ _ _ _ _
    function_argument (expression terms) count offset member source_in (aggregate_function terms) grouping measure sort_field clause arm row table

unfoldable pub checked_measure : Terms → Measure → (Scope → Checking SetMeasure)
checked_measure terms =
    fold-Measure _ _ _ _ _ _ _ _ _ _ _ _ _ _
    function_argument (expression terms) count offset member source_in (aggregate_function terms) grouping measure sort_field clause arm row table

unfoldable pub checked_sort : Terms → SortField → (Scope → Checking SortKey)
checked_sort terms =
    fold-SortField _ _ _ _ _ _ _ _ _ _ _ _ _ _
    function_argument (expression terms) count offset member source_in (aggregate_function terms) grouping measure sort_field clause arm row table

unfoldable pub checked_clause : Terms → IfClause → (Scope → Checking (Expr × Expr))
checked_clause terms =
    fold-IfClause _ _ _ _ _ _ _ _ _ _ _ _ _ _
    function_argument (expression terms) count offset member source_in (aggregate_function terms) grouping measure sort_field clause arm row table

unfoldable pub checked_arm : Terms → IfValue → Arm
checked_arm terms =
    fold-IfValue _ _ _ _ _ _ _ _ _ _ _ _ _ _
    function_argument (expression terms) count offset member source_in (aggregate_function terms) grouping measure sort_field clause arm row table

unfoldable pub checked_row : Terms → ExprRow → List Expression
checked_row terms =
    fold-ExprRow _ _ _ _ _ _ _ _ _ _ _ _ _ _
    function_argument (expression terms) count offset member source_in (aggregate_function terms) grouping measure sort_field clause arm row table

unfoldable pub checked_table : Terms → VirtualTable → (ℕ → List Ty → Checking (List (List Expr)))
checked_table terms =
    fold-VirtualTable _ _ _ _ _ _ _ _ _ _ _ _ _ _
    function_argument (expression terms) count offset member source_in (aggregate_function terms) grouping measure sort_field clause arm row table

-- a plan of one root, whose input isn't too many relations and has as many columns as there are names
abbrev pub plan_in : Terms → List RootDecl → Checking Typed
plan_in terms roots = do
  root ← part 0 (ok_or (only roots) rules.UnsupportedForm)
  must 0 root.is_root rules.UnsupportedForm
  input ← present 0 root.input
  must 0 (nat_le (relation_count input) MAX_RELATIONS) rules.TooMany
  rel ← numbered (checked_rel terms input)
  must 0 (length root.names == length (columns_of rel)) rules.BadNames
  accept (record { rel = rel; names = root.names })

-- what a plan is checked under
abbrev pub terms_of : Bool → PlanTree → Terms
terms_of with_subqueries tree = record { declared = record { uris = tree.uris; functions = tree.functions }; with_subqueries = with_subqueries }

-- nothing is checked
abbrev pub start : Progress
start = record { relations = 0; nodes = 0; subs = [] }

-- a checked plan with its subqueries
abbrev pub holed : Result (Typed × Progress) Refusal → Result Holed Refusal
holed (Ok (typed, progress)) = Ok (record { typed = typed; subs = progress.subs })
holed (Err refusal) = Err refusal

-- the first refusal of a plan, or the checked plan; whether subqueries are taken
abbrev pub verdict : Bool → PlanTree → Result Holed Refusal
verdict with_subqueries tree = holed (plan_in (terms_of with_subqueries tree) tree.roots start)

-- the checked plan alone
abbrev pub typed_alone : Result Holed Refusal → Result Typed Refusal
typed_alone (Ok found) = Ok found.typed
typed_alone (Err refusal) = Err refusal

-- what a call answers is this, unless no memory was found
abbrev pub Answers : {A : Type 0} → Result A CheckError → Result A Refusal → Type 0
Answers (Ok value) found = found ≡ Ok value
Answers (Err (errors.Refused relation rule)) found = found ≡ Err (record { relation = relation; rule = rule })
Answers (Err errors.NoMemory) found = Unit {0}
