use Rattle.std.proofs.Common.{arith, rules}
use Rattle.std.proofs.lemmas.List.Sums.{sum_by_more}
use Rattle.plan_tree.specs.Numbering.{count_in_grouping, count_in_row, count_in_sort, count_in_value}
use Rattle.plan_tree.proofs.CountLaws.{aggregate_relation, cast_expression, count_expr_count, cross_relation, fetch_relation, filter_relation, if_then_expression, in_predicate_expression, join_relation, none_in_argument, none_in_count, none_in_expression, none_in_offset, none_in_relation, none_in_source, offset_expr_offset, opened_clause, opened_function, opened_grouping, opened_measure, opened_row, opened_sort, opened_value, project_relation, read_relation, scalar_expression, scalar_function_expression, set_predicate_expression, set_relation, singular_or_list_expression, sort_relation, switch_expression_expression, value_argument, virtual_table_source}
use Rattle.plan_tree.proofs.+count.Goals as goal

pub count::rel_from-returns-in-Missing : goal.count::rel_from-returns-in-Missing
count::rel_from-returns-in-Missing t c = omega (arith, none_in_relation _ c.in-Missing.is)

pub count::rel_from-returns-in-Missing-2 : goal.count::rel_from-returns-in-Missing-2
count::rel_from-returns-in-Missing-2 t c = omega (arith, none_in_relation _ c.in-Missing.is)

pub count::rel_from-returns-in-Read : goal.count::rel_from-returns-in-Read
count::rel_from-returns-in-Read t c = omega (arith, read_relation _ _ _ _ _ _ _ c.in-Read.is)

pub count::rel_from-returns-in-Filter : goal.count::rel_from-returns-in-Filter
count::rel_from-returns-in-Filter t c = omega (arith, filter_relation _ _ _ _ c.in-Filter.is)

pub count::rel_from-returns-in-Fetch : goal.count::rel_from-returns-in-Fetch
count::rel_from-returns-in-Fetch t c = omega (arith, fetch_relation _ _ _ _ _ c.in-Fetch.is)

pub count::rel_from-returns-in-Aggregate : goal.count::rel_from-returns-in-Aggregate
count::rel_from-returns-in-Aggregate t c = grind (arith, aggregate_relation _ _ _ _ _ _ c.in-Aggregate.is)

pub count::rel_from-returns-in-Sort : goal.count::rel_from-returns-in-Sort
count::rel_from-returns-in-Sort t c = grind (arith, sort_relation _ _ _ _ c.in-Sort.is)

pub count::rel_from-returns-in-Join : goal.count::rel_from-returns-in-Join
count::rel_from-returns-in-Join t c = omega (arith, join_relation _ _ _ _ _ _ _ c.in-Join.is)

pub count::rel_from-returns-in-Project : goal.count::rel_from-returns-in-Project
count::rel_from-returns-in-Project t c = grind (arith, project_relation _ _ _ _ c.in-Project.is)

pub count::rel_from-returns-in-Set : goal.count::rel_from-returns-in-Set
count::rel_from-returns-in-Set t c = grind (arith, set_relation _ _ _ _ c.in-Set.is)

pub count::rel_from-returns-in-Cross : goal.count::rel_from-returns-in-Cross
count::rel_from-returns-in-Cross t c = omega (arith, cross_relation _ _ _ _ c.in-Cross.is)

pub count_exprs::expr_from-returns-in-Missing : goal.count_exprs::expr_from-returns-in-Missing
count_exprs::expr_from-returns-in-Missing t c = omega (arith, none_in_expression _ c.in-Missing.is)

pub count_exprs::expr_from-returns-in-Missing-2 : goal.count_exprs::expr_from-returns-in-Missing-2
count_exprs::expr_from-returns-in-Missing-2 t c = omega (arith, none_in_expression _ c.in-Missing.is)

pub count_exprs::expr_from-returns-in-Missing-3 : goal.count_exprs::expr_from-returns-in-Missing-3
count_exprs::expr_from-returns-in-Missing-3 t c = omega (arith, none_in_expression _ c.in-Missing.is)

pub count_exprs::expr_from-returns-in-Missing-4 : goal.count_exprs::expr_from-returns-in-Missing-4
count_exprs::expr_from-returns-in-Missing-4 t c = omega (arith, none_in_expression _ c.in-Missing.is)

pub count_exprs::expr_from-returns-in-ScalarFunction : goal.count_exprs::expr_from-returns-in-ScalarFunction
count_exprs::expr_from-returns-in-ScalarFunction t c = grind (arith, scalar_function_expression _ _ _ _ _ c.in-ScalarFunction.is)

pub count_exprs::expr_from-returns-in-IfThen : goal.count_exprs::expr_from-returns-in-IfThen
count_exprs::expr_from-returns-in-IfThen t c = grind (arith, if_then_expression _ _ _ c.in-IfThen.is)

pub count_exprs::expr_from-returns-in-SwitchExpression : goal.count_exprs::expr_from-returns-in-SwitchExpression
count_exprs::expr_from-returns-in-SwitchExpression t c = grind (arith, switch_expression_expression _ _ _ _ c.in-SwitchExpression.is)

pub count_exprs::expr_from-returns-in-SingularOrList : goal.count_exprs::expr_from-returns-in-SingularOrList
count_exprs::expr_from-returns-in-SingularOrList t c = grind (arith, singular_or_list_expression _ _ _ c.in-SingularOrList.is)

pub count_exprs::expr_from-returns-in-Cast : goal.count_exprs::expr_from-returns-in-Cast
count_exprs::expr_from-returns-in-Cast t c = omega (arith, cast_expression _ _ _ _ c.in-Cast.is)

pub count_exprs::expr_from-returns-in-Missing-5 : goal.count_exprs::expr_from-returns-in-Missing-5
count_exprs::expr_from-returns-in-Missing-5 t c = omega (arith, none_in_expression _ c.in-Missing.is)

pub count_exprs::expr_from-returns-in-Missing-6 : goal.count_exprs::expr_from-returns-in-Missing-6
count_exprs::expr_from-returns-in-Missing-6 t c = omega (arith, none_in_expression _ c.in-Missing.is)

pub count_exprs::expr_from-returns-in-Scalar : goal.count_exprs::expr_from-returns-in-Scalar
count_exprs::expr_from-returns-in-Scalar t c = omega (arith, scalar_expression _ _ c.in-Scalar.is)

pub count_exprs::expr_from-returns-in-InPredicate : goal.count_exprs::expr_from-returns-in-InPredicate
count_exprs::expr_from-returns-in-InPredicate t c = grind (arith, in_predicate_expression _ _ _ c.in-InPredicate.is)

pub count_exprs::expr_from-returns-in-SetPredicate : goal.count_exprs::expr_from-returns-in-SetPredicate
count_exprs::expr_from-returns-in-SetPredicate t c = omega (arith, set_predicate_expression _ _ _ c.in-SetPredicate.is)

pub count_exprs::expr_from-returns-in-Missing-7 : goal.count_exprs::expr_from-returns-in-Missing-7
count_exprs::expr_from-returns-in-Missing-7 t c = omega (arith, none_in_expression _ c.in-Missing.is)

pub count_exprs::argument_from-returns-in-Missing : goal.count_exprs::argument_from-returns-in-Missing
count_exprs::argument_from-returns-in-Missing t c = omega (arith, none_in_argument _ c.in-Missing.is)

pub count_exprs::argument_from-returns-in-Missing-2 : goal.count_exprs::argument_from-returns-in-Missing-2
count_exprs::argument_from-returns-in-Missing-2 t c = omega (arith, none_in_argument _ c.in-Missing.is)

pub count_exprs::argument_from-returns-in-Missing-3 : goal.count_exprs::argument_from-returns-in-Missing-3
count_exprs::argument_from-returns-in-Missing-3 t c = omega (arith, none_in_argument _ c.in-Missing.is)

pub count_exprs::argument_from-returns-in-Value : goal.count_exprs::argument_from-returns-in-Value
count_exprs::argument_from-returns-in-Value t c = omega (arith, value_argument _ _ c.in-Value.is)

pub count::source_from-returns-in-Missing : goal.count::source_from-returns-in-Missing
count::source_from-returns-in-Missing t c = omega (arith, none_in_source _ c.in-Missing.is)

pub count::source_from-returns-in-VirtualTable : goal.count::source_from-returns-in-VirtualTable
count::source_from-returns-in-VirtualTable t c = grind (arith, virtual_table_source _ _ c.in-VirtualTable.is)

pub count::source_from-returns-in-Missing-2 : goal.count::source_from-returns-in-Missing-2
count::source_from-returns-in-Missing-2 t c = omega (arith, none_in_source _ c.in-Missing.is)

pub count::source_from-returns-in-Missing-3 : goal.count::source_from-returns-in-Missing-3
count::source_from-returns-in-Missing-3 t c = omega (arith, none_in_source _ c.in-Missing.is)

pub count::offset_from-returns-in-Missing : goal.count::offset_from-returns-in-Missing
count::offset_from-returns-in-Missing t c = omega (arith, none_in_offset _ c.in-Missing.is)

pub count::offset_from-returns-in-Missing-2 : goal.count::offset_from-returns-in-Missing-2
count::offset_from-returns-in-Missing-2 t c = omega (arith, none_in_offset _ c.in-Missing.is)

pub count::offset_from-returns-in-OffsetExpr : goal.count::offset_from-returns-in-OffsetExpr
count::offset_from-returns-in-OffsetExpr t c = grind (arith, offset_expr_offset _ _ c.in-OffsetExpr.is)

pub count::count_from-returns-in-Missing : goal.count::count_from-returns-in-Missing
count::count_from-returns-in-Missing t c = omega (arith, none_in_count _ c.in-Missing.is)

pub count::count_from-returns-in-Missing-2 : goal.count::count_from-returns-in-Missing-2
count::count_from-returns-in-Missing-2 t c = omega (arith, none_in_count _ c.in-Missing.is)

pub count::count_from-returns-in-CountExpr : goal.count::count_from-returns-in-CountExpr
count::count_from-returns-in-CountExpr t c = grind (arith, count_expr_count _ _ c.in-CountExpr.is)

pub count::function_from-returns : goal.count::function_from-returns
count::function_from-returns t c = grind (arith, opened_function c.args.function.now)

pub count::measure_from-returns-in-None : goal.count::measure_from-returns-in-None
count::measure_from-returns-in-None t c = grind (arith, opened_measure c.args.measure.now)

pub count::measure_from-returns-in-Some : goal.count::measure_from-returns-in-Some
count::measure_from-returns-in-Some t c = grind (arith, opened_measure c.args.measure.now)

pub count_exprs::clause_from-returns : goal.count_exprs::clause_from-returns
count_exprs::clause_from-returns t c = omega (arith, opened_clause c.args.clause.now)

pub count::groupings_from-loop-grouping-preserved : goal.count::groupings_from-loop-grouping-preserved
count::groupings_from-loop-grouping-preserved t c = let e = sum_by_more count_in_grouping c.args.groupings.now c.loop-grouping.grouping-index c.grouping-item.result (search rules) in grind (arith, opened_grouping c.grouping-item.result)

pub count::rows_from-loop-row-preserved : goal.count::rows_from-loop-row-preserved
count::rows_from-loop-row-preserved t c = let e = sum_by_more count_in_row c.args.rows.now c.loop-row.row-index c.row-item.result (search rules) in grind (arith, opened_row c.row-item.result)

pub count::sorts_from-loop-sort-preserved : goal.count::sorts_from-loop-sort-preserved
count::sorts_from-loop-sort-preserved t c = let e = sum_by_more count_in_sort c.args.sorts.now c.loop-sort.sort-index c.sort-item.result (search rules) in grind (arith, opened_sort c.sort-item.result)

pub count_exprs::values_from-loop-value-preserved : goal.count_exprs::values_from-loop-value-preserved
count_exprs::values_from-loop-value-preserved t c = let e = sum_by_more count_in_value c.args.values.now c.loop-value.value-index c.value-item.result (search rules) in grind (arith, opened_value c.value-item.result)
