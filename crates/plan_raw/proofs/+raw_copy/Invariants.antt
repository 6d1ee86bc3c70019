-- Each loop has copied the first so many items.
use Rattle.std.proofs.Common.{◌≡◌, take}
use Rattle.plan_raw.proofs.+raw_copy.Given as goal

abbrev pub invariant-rel_copy::copy_rels-loop-rel : goal.invariant-rel_copy::copy_rels-loop-rel
invariant-rel_copy::copy_rels-loop-rel l = l.copies.items ≡ take l.rel-index l.rels

abbrev pub invariant-source_copy::copy_rows-loop-row : goal.invariant-source_copy::copy_rows-loop-row
invariant-source_copy::copy_rows-loop-row l = l.copies.items ≡ take l.row-index l.rows

abbrev pub invariant-aggregate_copy::copy_groupings-loop-grouping : goal.invariant-aggregate_copy::copy_groupings-loop-grouping
invariant-aggregate_copy::copy_groupings-loop-grouping l = l.copies.items ≡ take l.grouping-index l.groupings

abbrev pub invariant-aggregate_copy::copy_sorts-loop-sort : goal.invariant-aggregate_copy::copy_sorts-loop-sort
invariant-aggregate_copy::copy_sorts-loop-sort l = l.copies.items ≡ take l.sort-index l.sorts

abbrev pub invariant-aggregate_copy::copy_measures-loop-measure : goal.invariant-aggregate_copy::copy_measures-loop-measure
invariant-aggregate_copy::copy_measures-loop-measure l = l.copies.items ≡ take l.measure-index l.measures

abbrev pub invariant-expr_copy::copy_exprs-loop-expr : goal.invariant-expr_copy::copy_exprs-loop-expr
invariant-expr_copy::copy_exprs-loop-expr l = l.copies.items ≡ take l.expr-index l.exprs

abbrev pub invariant-expr_copy::copy_arguments-loop-argument : goal.invariant-expr_copy::copy_arguments-loop-argument
invariant-expr_copy::copy_arguments-loop-argument l = l.copies.items ≡ take l.argument-index l.arguments

abbrev pub invariant-expr_copy::copy_clauses-loop-clause : goal.invariant-expr_copy::copy_clauses-loop-clause
invariant-expr_copy::copy_clauses-loop-clause l = l.copies.items ≡ take l.clause-index l.clauses

abbrev pub invariant-expr_copy::copy_values-loop-value : goal.invariant-expr_copy::copy_values-loop-value
invariant-expr_copy::copy_values-loop-value l = l.copies.items ≡ take l.value-index l.values
