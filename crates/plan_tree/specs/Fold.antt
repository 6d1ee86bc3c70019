-- The messages of the tree that hold one another: one level of each, and what a message gives by one step for each level.
use Rattle.plan_raw.specs.declared.aggregate.AggregateFunction.{AggregateFunction, AggregateFunction-F, fold-AggregateFunction}
use Rattle.plan_raw.specs.declared.aggregate.Grouping.{Grouping, Grouping-F, fold-Grouping}
use Rattle.plan_raw.specs.declared.aggregate.Measure.{Measure, Measure-F, fold-Measure}
use Rattle.plan_raw.specs.declared.aggregate.SortField.{SortField, SortField-F, fold-SortField}
use Rattle.plan_raw.specs.declared.argument.FunctionArgument.{FunctionArgument, FunctionArgument-F, fold-FunctionArgument}
use Rattle.plan_raw.specs.declared.expr.IfClause.{IfClause, IfClause-F, fold-IfClause}
use Rattle.plan_raw.specs.declared.expr.IfValue.{IfValue, IfValue-F, fold-IfValue}
use Rattle.plan_raw.specs.declared.expr.RawExpr.{RawExpr, RawExpr-F, fold-RawExpr}
use Rattle.plan_raw.specs.declared.rel.RawCount.{RawCount, RawCount-F, fold-RawCount}
use Rattle.plan_raw.specs.declared.rel.RawOffset.{RawOffset, RawOffset-F, fold-RawOffset}
use Rattle.plan_raw.specs.declared.rel.RawRel.{RawRel, RawRel-F, fold-RawRel}
use Rattle.plan_raw.specs.declared.source.ExprRow.{ExprRow, ExprRow-F, fold-ExprRow}
use Rattle.plan_raw.specs.declared.source.RawSource.{RawSource, RawSource-F, fold-RawSource}
use Rattle.plan_raw.specs.declared.source.VirtualTable.{VirtualTable, VirtualTable-F}

-- one level of a message, by what stands in the places of the messages inside it: a type for each kind of message
abbrev pub Level : Type 1
Level = Type 0 → Type 0 → Type 0 → Type 0 → Type 0 → Type 0 → Type 0 → Type 0 → Type 0 → Type 0 → Type 0 → Type 0 → Type 0 → Type 0 → Type 0

-- a level with the messages themselves inside it
abbrev pub Opened : Level → Type 0
Opened Message = Message FunctionArgument RawExpr RawCount RawOffset RawRel RawSource AggregateFunction Grouping Measure SortField IfClause IfValue ExprRow VirtualTable

-- a level with one of A in the place of each message inside it
abbrev pub With : Type 0 → Level → Type 0
With A Message = Message A A A A A A A A A A A A A A

-- what each message gives, once those inside it have given what stands in their places
pub record Steps (A : Type 0) : Type 0 where
  pub argument : With A FunctionArgument-F → A
  pub expression : With A RawExpr-F → A
  pub count : With A RawCount-F → A
  pub offset : With A RawOffset-F → A
  pub relation : With A RawRel-F → A
  pub source : With A RawSource-F → A
  pub function : With A AggregateFunction-F → A
  pub grouping : With A Grouping-F → A
  pub measure : With A Measure-F → A
  pub sort : With A SortField-F → A
  pub clause : With A IfClause-F → A
  pub value : With A IfValue-F → A
  pub row : With A ExprRow-F → A
  pub table : With A VirtualTable-F → A

-- what a message gives by these steps
abbrev pub fold_argument : {A : Type 0} → Steps A → FunctionArgument → A
fold_argument {A} steps =
    fold-FunctionArgument A A A A A A A A A A A A A A
    steps.argument steps.expression steps.count steps.offset steps.relation steps.source steps.function
    steps.grouping steps.measure steps.sort steps.clause steps.value steps.row steps.table

abbrev pub fold_expression : {A : Type 0} → Steps A → RawExpr → A
fold_expression {A} steps =
    fold-RawExpr A A A A A A A A A A A A A A
    steps.argument steps.expression steps.count steps.offset steps.relation steps.source steps.function
    steps.grouping steps.measure steps.sort steps.clause steps.value steps.row steps.table

abbrev pub fold_count : {A : Type 0} → Steps A → RawCount → A
fold_count {A} steps =
    fold-RawCount A A A A A A A A A A A A A A
    steps.argument steps.expression steps.count steps.offset steps.relation steps.source steps.function
    steps.grouping steps.measure steps.sort steps.clause steps.value steps.row steps.table

abbrev pub fold_offset : {A : Type 0} → Steps A → RawOffset → A
fold_offset {A} steps =
    fold-RawOffset A A A A A A A A A A A A A A
    steps.argument steps.expression steps.count steps.offset steps.relation steps.source steps.function
    steps.grouping steps.measure steps.sort steps.clause steps.value steps.row steps.table

abbrev pub fold_relation : {A : Type 0} → Steps A → RawRel → A
fold_relation {A} steps =
    fold-RawRel A A A A A A A A A A A A A A
    steps.argument steps.expression steps.count steps.offset steps.relation steps.source steps.function
    steps.grouping steps.measure steps.sort steps.clause steps.value steps.row steps.table

abbrev pub fold_source : {A : Type 0} → Steps A → RawSource → A
fold_source {A} steps =
    fold-RawSource A A A A A A A A A A A A A A
    steps.argument steps.expression steps.count steps.offset steps.relation steps.source steps.function
    steps.grouping steps.measure steps.sort steps.clause steps.value steps.row steps.table

abbrev pub fold_function : {A : Type 0} → Steps A → AggregateFunction → A
fold_function {A} steps =
    fold-AggregateFunction A A A A A A A A A A A A A A
    steps.argument steps.expression steps.count steps.offset steps.relation steps.source steps.function
    steps.grouping steps.measure steps.sort steps.clause steps.value steps.row steps.table

abbrev pub fold_grouping : {A : Type 0} → Steps A → Grouping → A
fold_grouping {A} steps =
    fold-Grouping A A A A A A A A A A A A A A
    steps.argument steps.expression steps.count steps.offset steps.relation steps.source steps.function
    steps.grouping steps.measure steps.sort steps.clause steps.value steps.row steps.table

abbrev pub fold_measure : {A : Type 0} → Steps A → Measure → A
fold_measure {A} steps =
    fold-Measure A A A A A A A A A A A A A A
    steps.argument steps.expression steps.count steps.offset steps.relation steps.source steps.function
    steps.grouping steps.measure steps.sort steps.clause steps.value steps.row steps.table

abbrev pub fold_sort : {A : Type 0} → Steps A → SortField → A
fold_sort {A} steps =
    fold-SortField A A A A A A A A A A A A A A
    steps.argument steps.expression steps.count steps.offset steps.relation steps.source steps.function
    steps.grouping steps.measure steps.sort steps.clause steps.value steps.row steps.table

abbrev pub fold_clause : {A : Type 0} → Steps A → IfClause → A
fold_clause {A} steps =
    fold-IfClause A A A A A A A A A A A A A A
    steps.argument steps.expression steps.count steps.offset steps.relation steps.source steps.function
    steps.grouping steps.measure steps.sort steps.clause steps.value steps.row steps.table

abbrev pub fold_value : {A : Type 0} → Steps A → IfValue → A
fold_value {A} steps =
    fold-IfValue A A A A A A A A A A A A A A
    steps.argument steps.expression steps.count steps.offset steps.relation steps.source steps.function
    steps.grouping steps.measure steps.sort steps.clause steps.value steps.row steps.table

abbrev pub fold_row : {A : Type 0} → Steps A → ExprRow → A
fold_row {A} steps =
    fold-ExprRow A A A A A A A A A A A A A A
    steps.argument steps.expression steps.count steps.offset steps.relation steps.source steps.function
    steps.grouping steps.measure steps.sort steps.clause steps.value steps.row steps.table
