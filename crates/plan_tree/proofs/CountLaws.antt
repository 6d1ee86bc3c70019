-- How many relations each message holds, by its form.
use Rattle.std.proofs.Common.{◌≡◌, ◌+◌, ◌⊎◌, inl, inr, sum_by, rules}
use Rattle.std.specs.Option.{option_map}
use Rattle.std.proofs.lemmas.List.Sums.{sum-map}
use Rattle.plan_raw.specs.declared.rel.RawRel.{the_lemmas}
use Rattle.plan_raw.specs.declared.argument.FunctionArgument.{FunctionArgument}
use Rattle.plan_raw.specs.declared.expr.RawExpr.{RawExpr}
use Rattle.plan_raw.specs.declared.rel.RawCount.{RawCount}
use Rattle.plan_raw.specs.declared.rel.RawOffset.{RawOffset}
use Rattle.plan_raw.specs.declared.rel.RawRel.{RawRel}
use Rattle.plan_raw.specs.declared.source.RawSource.{RawSource}
use Rattle.plan_raw.specs.declared.aggregate.AggregateFunction.{AggregateFunction, out-AggregateFunction}
use Rattle.plan_raw.specs.declared.aggregate.Grouping.{Grouping, out-Grouping}
use Rattle.plan_raw.specs.declared.aggregate.Measure.{Measure, out-Measure}
use Rattle.plan_raw.specs.declared.aggregate.SortField.{SortField, out-SortField}
use Rattle.plan_raw.specs.declared.expr.IfClause.{IfClause, out-IfClause}
use Rattle.plan_raw.specs.declared.expr.IfValue.{IfValue, out-IfValue}
use Rattle.plan_raw.specs.declared.source.ExprRow.{ExprRow, out-ExprRow}
use Rattle.plan_raw.specs.declared.source.VirtualTable.{out-VirtualTable}
use Rattle.plan_raw.specs.declared.rel.RawRel.TheVariants as r
use Rattle.plan_raw.specs.declared.expr.RawExpr.TheVariants as e
use Rattle.plan_raw.specs.declared.argument.FunctionArgument.TheVariants as a
use Rattle.plan_raw.specs.declared.source.RawSource.TheVariants as s
use Rattle.plan_raw.specs.declared.rel.RawOffset.TheVariants as o
use Rattle.plan_raw.specs.declared.rel.RawCount.TheVariants as k
use Rattle.plan_tree.specs.Numbering.{held, relation_count, count_in_argument, count_in_expression, count_in_count, count_in_offset, count_in_source, count_in_function, count_in_grouping, count_in_measure, count_in_sort, count_in_clause, count_in_value, count_in_row}

-- a relation of these forms counts itself alone, and none is in other messages of these forms
pub none_in_relation : (whole : RawRel) → (whole ≡ r.Missing) ⊎ ((number : _) × whole ≡ r.Unknown number) → relation_count whole ≡ 1
unfolding relation_count
none_in_relation whole (inl is) = rw is (search (rules, the_lemmas, sum-map))
none_in_relation whole (inr (number, is)) = rw is (search (rules, the_lemmas, sum-map))

pub none_in_expression : (whole : RawExpr) → (whole ≡ e.Missing) ⊎ (((number : _) × whole ≡ e.Unknown number) ⊎ (((literal : _) × whole ≡ e.Literal literal) ⊎ (((direct : _) × (root : _) × (other : _) × whole ≡ e.Selection direct root other) ⊎ ((whole ≡ e.SubqueryMissing) ⊎ (((number : _) × whole ≡ e.SubqueryUnknown number) ⊎ (whole ≡ e.SetComparison)))))) → count_in_expression whole ≡ 0
unfolding count_in_expression
none_in_expression whole (inl is) = rw is (search (rules, the_lemmas, sum-map))
none_in_expression whole (inr (inl (number, is))) = rw is (search (rules, the_lemmas, sum-map))
none_in_expression whole (inr (inr (inl (literal, is)))) = rw is (search (rules, the_lemmas, sum-map))
none_in_expression whole (inr (inr (inr (inl (direct, root, other, is))))) = rw is (search (rules, the_lemmas, sum-map))
none_in_expression whole (inr (inr (inr (inr (inl is))))) = rw is (search (rules, the_lemmas, sum-map))
none_in_expression whole (inr (inr (inr (inr (inr (inl (number, is))))))) = rw is (search (rules, the_lemmas, sum-map))
none_in_expression whole (inr (inr (inr (inr (inr (inr is)))))) = rw is (search (rules, the_lemmas, sum-map))

pub none_in_argument : (whole : FunctionArgument) → (whole ≡ a.Missing) ⊎ (((name : _) × whole ≡ a.Enum name) ⊎ ((ty : _) × whole ≡ a.TypeArgument ty)) → count_in_argument whole ≡ 0
unfolding count_in_argument
none_in_argument whole (inl is) = rw is (search (rules, the_lemmas, sum-map))
none_in_argument whole (inr (inl (name, is))) = rw is (search (rules, the_lemmas, sum-map))
none_in_argument whole (inr (inr (ty, is))) = rw is (search (rules, the_lemmas, sum-map))

pub none_in_source : (whole : RawSource) → (whole ≡ s.Missing) ⊎ (((files : _) × whole ≡ s.LocalFiles files) ⊎ ((named : _) × whole ≡ s.NamedTable named)) → count_in_source whole ≡ 0
unfolding count_in_source
none_in_source whole (inl is) = rw is (search (rules, the_lemmas, sum-map))
none_in_source whole (inr (inl (files, is))) = rw is (search (rules, the_lemmas, sum-map))
none_in_source whole (inr (inr (named, is))) = rw is (search (rules, the_lemmas, sum-map))

pub none_in_offset : (whole : RawOffset) → (whole ≡ o.Missing) ⊎ ((offset : _) × whole ≡ o.Offset offset) → count_in_offset whole ≡ 0
unfolding count_in_offset
none_in_offset whole (inl is) = rw is (search (rules, the_lemmas, sum-map))
none_in_offset whole (inr (offset, is)) = rw is (search (rules, the_lemmas, sum-map))

pub none_in_count : (whole : RawCount) → (whole ≡ k.Missing) ⊎ ((count : _) × whole ≡ k.Count count) → count_in_count whole ≡ 0
unfolding count_in_count
none_in_count whole (inl is) = rw is (search (rules, the_lemmas, sum-map))
none_in_count whole (inr (count, is)) = rw is (search (rules, the_lemmas, sum-map))

-- relations
pub read_relation : (whole : RawRel) (common schema filter projection source best_effort : _) → whole ≡ r.Read common schema filter projection source best_effort → relation_count whole ≡ 1 + count_in_source source + held (option_map count_in_expression filter)
unfolding relation_count count_in_expression count_in_source
read_relation whole common schema filter projection source best_effort is = rw is (search (rules, the_lemmas, sum-map))

pub filter_relation : (whole : RawRel) (common input condition : _) → whole ≡ r.Filter common input condition → relation_count whole ≡ 1 + held (option_map relation_count input) + held (option_map count_in_expression condition)
unfolding relation_count count_in_expression
filter_relation whole common input condition is = rw is (search (rules, the_lemmas, sum-map))

pub fetch_relation : (whole : RawRel) (common input offset count : _) → whole ≡ r.Fetch common input offset count → relation_count whole ≡ 1 + held (option_map relation_count input) + count_in_offset offset + count_in_count count
unfolding relation_count count_in_count count_in_offset
fetch_relation whole common input offset count is = rw is (search (rules, the_lemmas, sum-map))

pub aggregate_relation : (whole : RawRel) (common input groupings measures exprs : _) → whole ≡ r.Aggregate common input groupings measures exprs → relation_count whole ≡ 1 + held (option_map relation_count input) + sum_by count_in_grouping groupings + sum_by count_in_expression exprs + sum_by count_in_measure measures
unfolding relation_count count_in_expression count_in_grouping count_in_measure
aggregate_relation whole common input groupings measures exprs is = rw is (search (rules, the_lemmas, sum-map))

pub sort_relation : (whole : RawRel) (common input sorts : _) → whole ≡ r.Sort common input sorts → relation_count whole ≡ 1 + held (option_map relation_count input) + sum_by count_in_sort sorts
unfolding relation_count count_in_sort
sort_relation whole common input sorts is = rw is (search (rules, the_lemmas, sum-map))

pub join_relation : (whole : RawRel) (common left right condition post type : _) → whole ≡ r.Join common left right condition post type → relation_count whole ≡ 1 + held (option_map relation_count left) + held (option_map relation_count right) + held (option_map count_in_expression condition) + held (option_map count_in_expression post)
unfolding relation_count count_in_expression
join_relation whole common left right condition post type is = rw is (search (rules, the_lemmas, sum-map))

pub project_relation : (whole : RawRel) (common input exprs : _) → whole ≡ r.Project common input exprs → relation_count whole ≡ 1 + held (option_map relation_count input) + sum_by count_in_expression exprs
unfolding relation_count count_in_expression
project_relation whole common input exprs is = rw is (search (rules, the_lemmas, sum-map))

pub set_relation : (whole : RawRel) (common inputs op : _) → whole ≡ r.Set common inputs op → relation_count whole ≡ 1 + sum_by relation_count inputs
unfolding relation_count
set_relation whole common inputs op is = rw is (search (rules, the_lemmas, sum-map))

pub cross_relation : (whole : RawRel) (common left right : _) → whole ≡ r.Cross common left right → relation_count whole ≡ 1 + held (option_map relation_count left) + held (option_map relation_count right)
unfolding relation_count
cross_relation whole common left right is = rw is (search (rules, the_lemmas, sum-map))

-- expressions
pub scalar_function_expression : (whole : RawExpr) (reference output arguments options : _) → whole ≡ e.ScalarFunction reference output arguments options → count_in_expression whole ≡ sum_by count_in_argument arguments
unfolding count_in_argument count_in_expression
scalar_function_expression whole reference output arguments options is = rw is (search (rules, the_lemmas, sum-map))

pub if_then_expression : (whole : RawExpr) (ifs other : _) → whole ≡ e.IfThen ifs other → count_in_expression whole ≡ sum_by count_in_clause ifs + held (option_map count_in_expression other)
unfolding count_in_expression count_in_clause
if_then_expression whole ifs other is = rw is (search (rules, the_lemmas, sum-map))

pub switch_expression_expression : (whole : RawExpr) (ifs other subject : _) → whole ≡ e.SwitchExpression ifs other subject → count_in_expression whole ≡ held (option_map count_in_expression subject) + sum_by count_in_value ifs + held (option_map count_in_expression other)
unfolding count_in_expression count_in_value
switch_expression_expression whole ifs other subject is = rw is (search (rules, the_lemmas, sum-map))

pub singular_or_list_expression : (whole : RawExpr) (value options : _) → whole ≡ e.SingularOrList value options → count_in_expression whole ≡ held (option_map count_in_expression value) + sum_by count_in_expression options
unfolding count_in_expression
singular_or_list_expression whole value options is = rw is (search (rules, the_lemmas, sum-map))

pub cast_expression : (whole : RawExpr) (ty input failure : _) → whole ≡ e.Cast ty input failure → count_in_expression whole ≡ held (option_map count_in_expression input)
unfolding count_in_expression
cast_expression whole ty input failure is = rw is (search (rules, the_lemmas, sum-map))

pub scalar_expression : (whole : RawExpr) (input : _) → whole ≡ e.Scalar input → count_in_expression whole ≡ held (option_map relation_count input)
unfolding relation_count count_in_expression
scalar_expression whole input is = rw is (search (rules, the_lemmas, sum-map))

pub in_predicate_expression : (whole : RawExpr) (needles haystack : _) → whole ≡ e.InPredicate needles haystack → count_in_expression whole ≡ sum_by count_in_expression needles + held (option_map relation_count haystack)
unfolding relation_count count_in_expression
in_predicate_expression whole needles haystack is = rw is (search (rules, the_lemmas, sum-map))

pub set_predicate_expression : (whole : RawExpr) (op tuples : _) → whole ≡ e.SetPredicate op tuples → count_in_expression whole ≡ held (option_map relation_count tuples)
unfolding relation_count count_in_expression
set_predicate_expression whole op tuples is = rw is (search (rules, the_lemmas, sum-map))

-- other choices
pub value_argument : (whole : FunctionArgument) (value : _) → whole ≡ a.Value value → count_in_argument whole ≡ count_in_expression value
unfolding count_in_argument count_in_expression
value_argument whole value is = rw is (search (rules, the_lemmas, sum-map))

pub virtual_table_source : (whole : RawSource) (table : _) → whole ≡ s.VirtualTable table → count_in_source whole ≡ sum_by count_in_row (out-VirtualTable table).expressions
unfolding count_in_source count_in_row
virtual_table_source whole table is = rw is (search (rules, the_lemmas, sum-map))

pub offset_expr_offset : (whole : RawOffset) (expr : _) → whole ≡ o.OffsetExpr expr → count_in_offset whole ≡ count_in_expression expr
unfolding count_in_expression count_in_offset
offset_expr_offset whole expr is = rw is (search (rules, the_lemmas, sum-map))

pub count_expr_count : (whole : RawCount) (expr : _) → whole ≡ k.CountExpr expr → count_in_count whole ≡ count_in_expression expr
unfolding count_in_expression count_in_count
count_expr_count whole expr is = rw is (search (rules, the_lemmas, sum-map))

-- messages of several fields, opened
pub opened_clause : (clause : IfClause) → count_in_clause clause ≡ held (option_map count_in_expression (out-IfClause clause).if_) + held (option_map count_in_expression (out-IfClause clause).«then»)
unfolding count_in_expression count_in_clause
opened_clause clause = search (rules, the_lemmas, sum-map)

pub opened_value : (value : IfValue) → count_in_value value ≡ held (option_map count_in_expression (out-IfValue value).«then»)
unfolding count_in_expression count_in_value
opened_value value = search (rules, the_lemmas, sum-map)

pub opened_row : (row : ExprRow) → count_in_row row ≡ sum_by count_in_expression (out-ExprRow row).fields
unfolding count_in_expression count_in_row
opened_row row = search (rules, the_lemmas, sum-map)

pub opened_grouping : (grouping : Grouping) → count_in_grouping grouping ≡ sum_by count_in_expression (out-Grouping grouping).grouping_expressions
unfolding count_in_expression count_in_grouping
opened_grouping grouping = search (rules, the_lemmas, sum-map)

pub opened_sort : (sort : SortField) → count_in_sort sort ≡ held (option_map count_in_expression (out-SortField sort).expr)
unfolding count_in_expression count_in_sort
opened_sort sort = search (rules, the_lemmas, sum-map)

pub opened_function : (function : AggregateFunction) → count_in_function function ≡ sum_by count_in_sort (out-AggregateFunction function).sorts + sum_by count_in_argument (out-AggregateFunction function).arguments
unfolding count_in_argument count_in_function count_in_sort
opened_function function = search (rules, the_lemmas, sum-map)

pub opened_measure : (measure : Measure) → count_in_measure measure ≡ held (option_map count_in_expression (out-Measure measure).filter) + held (option_map count_in_function (out-Measure measure).measure)
unfolding count_in_expression count_in_function count_in_measure
opened_measure measure = search (rules, the_lemmas, sum-map)
