-- How relations are numbered in pre-order: a relation, then its inputs from left to right, then the subqueries of its own
-- expressions in the order in which these are checked.
use Rattle.std.specs.Prelude.{ℕ, ◌+◌, List, [], ◌∷◌, ◌++◌, Option, sum, map, unwrap_or}
use Rattle.std.specs.Option.{option_to_list}
use Rattle.plan_raw.specs.declared.aggregate.AggregateFunction.{AggregateFunction, AggregateFunction-F}
use Rattle.plan_raw.specs.declared.aggregate.Grouping.{Grouping, Grouping-F}
use Rattle.plan_raw.specs.declared.aggregate.Measure.{Measure, Measure-F}
use Rattle.plan_raw.specs.declared.aggregate.SortField.{SortField, SortField-F}
use Rattle.plan_raw.specs.declared.argument.FunctionArgument.{FunctionArgument, FunctionArgument-F}
use Rattle.plan_raw.specs.declared.expr.IfClause.{IfClause, IfClause-F}
use Rattle.plan_raw.specs.declared.expr.IfValue.{IfValue, IfValue-F}
use Rattle.plan_raw.specs.declared.expr.RawExpr.{RawExpr, RawExpr-F}
use Rattle.plan_raw.specs.declared.rel.RawCount.{RawCount, RawCount-F}
use Rattle.plan_raw.specs.declared.rel.RawOffset.{RawOffset, RawOffset-F}
use Rattle.plan_raw.specs.declared.rel.RawRel.{RawRel, RawRel-F, out-RawRel}
use Rattle.plan_raw.specs.declared.source.ExprRow.{ExprRow, ExprRow-F}
use Rattle.plan_raw.specs.declared.source.RawSource.{RawSource, RawSource-F}
use Rattle.plan_raw.specs.declared.source.VirtualTable.{VirtualTable-F}
use Rattle.plan_tree.specs.Fold.{Level, Opened, With, Steps, fold_argument, fold_expression, fold_count, fold_offset, fold_relation, fold_source, fold_function, fold_grouping, fold_measure, fold_sort, fold_clause, fold_value, fold_row}
pub use Rattle.plan_typed.specs.Numbers.{op_numbers, numbers_of}

-- one level of a message, with the number of relations in each message inside it in that message's place
abbrev pub Counted : Level → Type 0
Counted Message = With ℕ Message

-- none in a message that is absent
abbrev pub held : Option ℕ → ℕ
held count = unwrap_or count 0

-- the relations in an argument of a function
abbrev pub in_argument : Counted FunctionArgument-F → ℕ
in_argument (FunctionArgument-F.Value value) = value
in_argument _ = 0

-- those in a clause of an if-then
abbrev pub in_clause : Counted IfClause-F → ℕ
in_clause clause = held clause.if_ + held clause.«then»

-- those in a value of a switch, whose own literal has none
abbrev pub in_value : Counted IfValue-F → ℕ
in_value value = held value.«then»

-- those in an expression: a subquery's relation, and those in the expressions inside it
abbrev pub in_expression : Counted RawExpr-F → ℕ
in_expression (RawExpr-F.ScalarFunction reference output arguments options) = sum arguments
in_expression (RawExpr-F.IfThen ifs other) = sum ifs + held other
in_expression (RawExpr-F.SwitchExpression ifs other subject) = held subject + sum ifs + held other
in_expression (RawExpr-F.SingularOrList value options) = held value + sum options
in_expression (RawExpr-F.Cast ty input failure) = held input
in_expression (RawExpr-F.Scalar input) = held input
in_expression (RawExpr-F.InPredicate needles haystack) = sum needles + held haystack
in_expression (RawExpr-F.SetPredicate op tuples) = held tuples
in_expression _ = 0

-- those in a row of expressions
abbrev pub in_row : Counted ExprRow-F → ℕ
in_row row = sum row.fields

-- those in a virtual table, whose literals have none
abbrev pub in_table : Counted VirtualTable-F → ℕ
in_table table = sum table.expressions

-- those in what a read reads
abbrev pub in_source : Counted RawSource-F → ℕ
in_source (RawSource-F.VirtualTable table) = table
in_source _ = 0

-- those in a fetch's offset
abbrev pub in_offset : Counted RawOffset-F → ℕ
in_offset (RawOffset-F.OffsetExpr expr) = expr
in_offset _ = 0

-- those in a fetch's count
abbrev pub in_count : Counted RawCount-F → ℕ
in_count (RawCount-F.CountExpr expr) = expr
in_count _ = 0

-- those in a grouping
abbrev pub in_grouping : Counted Grouping-F → ℕ
in_grouping grouping = sum grouping.grouping_expressions

-- those in a sort key
abbrev pub in_sort : Counted SortField-F → ℕ
in_sort sort = held sort.expr

-- those in an aggregate function
abbrev pub in_function : Counted AggregateFunction-F → ℕ
in_function function = sum function.sorts + sum function.arguments

-- those in a measure
abbrev pub in_measure : Counted Measure-F → ℕ
in_measure measure = held measure.filter + held measure.measure

-- those in a relation, which counts itself; its best-effort filter isn't checked
abbrev pub in_relation : Counted RawRel-F → ℕ
in_relation (RawRel-F.Read common schema filter projection source best_effort_filter) = 1 + source + held filter
in_relation (RawRel-F.Filter common input condition) = 1 + held input + held condition
in_relation (RawRel-F.Fetch common input offset count) = 1 + held input + offset + count
in_relation (RawRel-F.Aggregate common input groupings measures exprs) = 1 + held input + sum groupings + sum exprs + sum measures
in_relation (RawRel-F.Sort common input sorts) = 1 + held input + sum sorts
in_relation (RawRel-F.Join common left right condition post_join_filter type) = 1 + held left + held right + held condition + held post_join_filter
in_relation (RawRel-F.Project common input exprs) = 1 + held input + sum exprs
in_relation (RawRel-F.Set common inputs op) = 1 + sum inputs
in_relation (RawRel-F.Cross common left right) = 1 + held left + held right
in_relation _ = 1

-- the relations in each message
abbrev pub counts : Steps ℕ
counts = record {
  argument = in_argument;
  expression = in_expression;
  count = in_count;
  offset = in_offset;
  relation = in_relation;
  source = in_source;
  function = in_function;
  grouping = in_grouping;
  measure = in_measure;
  sort = in_sort;
  clause = in_clause;
  value = in_value;
  row = in_row;
  table = in_table;
}

-- how many relations a relation holds: itself, and those below it and in its subqueries
unfoldable pub relation_count : RawRel → ℕ
relation_count = fold_relation counts

-- how many relations each message inside a relation holds
unfoldable pub count_in_argument : FunctionArgument → ℕ
count_in_argument = fold_argument counts

unfoldable pub count_in_expression : RawExpr → ℕ
count_in_expression = fold_expression counts

unfoldable pub count_in_count : RawCount → ℕ
count_in_count = fold_count counts

unfoldable pub count_in_offset : RawOffset → ℕ
count_in_offset = fold_offset counts

unfoldable pub count_in_source : RawSource → ℕ
count_in_source = fold_source counts

unfoldable pub count_in_function : AggregateFunction → ℕ
count_in_function = fold_function counts

unfoldable pub count_in_grouping : Grouping → ℕ
count_in_grouping = fold_grouping counts

unfoldable pub count_in_measure : Measure → ℕ
count_in_measure = fold_measure counts

unfoldable pub count_in_sort : SortField → ℕ
count_in_sort = fold_sort counts

unfoldable pub count_in_clause : IfClause → ℕ
count_in_clause = fold_clause counts

unfoldable pub count_in_value : IfValue → ℕ
count_in_value = fold_value counts

unfoldable pub count_in_row : ExprRow → ℕ
count_in_row = fold_row counts

-- the inputs at one level of a relation, from left to right
abbrev pub inputs_in : Opened RawRel-F → List RawRel
inputs_in (RawRel-F.Filter common input condition) = option_to_list input
inputs_in (RawRel-F.Fetch common input offset count) = option_to_list input
inputs_in (RawRel-F.Aggregate common input groupings measures exprs) = option_to_list input
inputs_in (RawRel-F.Sort common input sorts) = option_to_list input
inputs_in (RawRel-F.Join common left right condition post_join_filter type) = option_to_list left ++ option_to_list right
inputs_in (RawRel-F.Project common input exprs) = option_to_list input
inputs_in (RawRel-F.Set common inputs op) = inputs
inputs_in (RawRel-F.Cross common left right) = option_to_list left ++ option_to_list right
inputs_in _ = []

-- the inputs of a relation
abbrev pub inputs_of : RawRel → List RawRel
inputs_of rel = inputs_in (out-RawRel rel)

-- the numbers of relations that stand one after the other, the first of which has this number
abbrev pub numbers_from : ℕ → List RawRel → List ℕ
numbers_from first [] = []
numbers_from first (rel ∷ rels) = first ∷ numbers_from (first + relation_count rel) rels

-- the numbers of the inputs of a relation with this number
abbrev pub input_numbers : ℕ → RawRel → List ℕ
input_numbers number rel = numbers_from (number + 1) (inputs_of rel)

-- the number of the first subquery of a relation with this number
abbrev pub subquery_number : ℕ → RawRel → ℕ
subquery_number number rel = number + 1 + sum (map relation_count (inputs_of rel))
