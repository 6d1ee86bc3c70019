-- Each loop has counted what the first so many items hold.
use Rattle.std.proofs.Common.{◌≡◌, ◌+◌, min, sum_by, take}
use Rattle.plan_tree.specs.Numbering.{count_in_argument, count_in_clause, count_in_expression, count_in_grouping, count_in_measure, count_in_row, count_in_sort, count_in_value, relation_count}
use Rattle.plan_tree.proofs.+count.Given as goal

abbrev pub invariant-count::rels_from-loop-rel : goal.invariant-count::rels_from-loop-rel
invariant-count::rels_from-loop-rel l = l.seen ≡ min l.limit (l.fn.seen + sum_by relation_count (take l.rel-index l.rels))

abbrev pub invariant-count::rows_from-loop-row : goal.invariant-count::rows_from-loop-row
invariant-count::rows_from-loop-row l = l.seen ≡ min l.limit (l.fn.seen + sum_by count_in_row (take l.row-index l.rows))

abbrev pub invariant-count::groupings_from-loop-grouping : goal.invariant-count::groupings_from-loop-grouping
invariant-count::groupings_from-loop-grouping l = l.seen ≡ min l.limit (l.fn.seen + sum_by count_in_grouping (take l.grouping-index l.groupings))

abbrev pub invariant-count::sorts_from-loop-sort : goal.invariant-count::sorts_from-loop-sort
invariant-count::sorts_from-loop-sort l = l.seen ≡ min l.limit (l.fn.seen + sum_by count_in_sort (take l.sort-index l.sorts))

abbrev pub invariant-count::measures_from-loop-measure : goal.invariant-count::measures_from-loop-measure
invariant-count::measures_from-loop-measure l = l.seen ≡ min l.limit (l.fn.seen + sum_by count_in_measure (take l.measure-index l.measures))

abbrev pub invariant-count_exprs::exprs_from-loop-expr : goal.invariant-count_exprs::exprs_from-loop-expr
invariant-count_exprs::exprs_from-loop-expr l = l.seen ≡ min l.limit (l.fn.seen + sum_by count_in_expression (take l.expr-index l.exprs))

abbrev pub invariant-count_exprs::arguments_from-loop-argument : goal.invariant-count_exprs::arguments_from-loop-argument
invariant-count_exprs::arguments_from-loop-argument l = l.seen ≡ min l.limit (l.fn.seen + sum_by count_in_argument (take l.argument-index l.arguments))

abbrev pub invariant-count_exprs::clauses_from-loop-clause : goal.invariant-count_exprs::clauses_from-loop-clause
invariant-count_exprs::clauses_from-loop-clause l = l.seen ≡ min l.limit (l.fn.seen + sum_by count_in_clause (take l.clause-index l.clauses))

abbrev pub invariant-count_exprs::values_from-loop-value : goal.invariant-count_exprs::values_from-loop-value
invariant-count_exprs::values_from-loop-value l = l.seen ≡ min l.limit (l.fn.seen + sum_by count_in_value (take l.value-index l.values))
