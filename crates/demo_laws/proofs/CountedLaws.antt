-- The demo's plan has five relations: each of its messages in turn, from the leaves.
use Rattle.std.proofs.Common.{◌≡◌, ◌∙◌, ◌+◌, ℕ, List, [], ◌∷◌, true, false, Some, None, inl, inr, refl, ap, sum_by}
use Rattle.std.specs.Option.{option_map}
use Rattle.std.specs.Prelude.{codes}
use Rattle.plan_leaves.specs.declared.types.RawType.{RawType}
use Rattle.plan_leaves.specs.declared.types.RawType.TheVariants as t
use Rattle.plan_raw.specs.declared.aggregate.AggregateFunction.{AggregateFunction-F}
use Rattle.plan_raw.specs.declared.aggregate.Grouping.{Grouping-F}
use Rattle.plan_raw.specs.declared.aggregate.Measure.{Measure-F}
use Rattle.plan_raw.specs.declared.aggregate.SortField.{SortField-F}
use Rattle.plan_raw.specs.declared.source.RawSource.TheVariants as source
use Rattle.plan_tree.proofs.CountLaws.{none_in_expression, none_in_source, read_relation, aggregate_relation, sort_relation, join_relation, scalar_function_expression, value_argument, opened_grouping, opened_sort, opened_function, opened_measure}
use Rattle.plan_tree.specs.Fold.{Opened}
use Rattle.plan_tree.specs.Numbering.{held, relation_count, count_in_argument, count_in_expression, count_in_function, count_in_grouping, count_in_measure, count_in_sort}
use Rattle.gen_data.specs.Plan as raw
use Rattle.demo_laws.proofs.OpenedLaws.{segment, argument, both, schema, named, grouping, out_grouping, function_of, out_function, out_measure, key, out_key}

-- a column, and as an argument; a table; the condition of the join
in_column : (place : ℕ) → count_in_expression (raw.column place) ≡ 0
in_column place = none_in_expression (raw.column place) (inr (inr (inr (inl (Some (segment place), true, false, refl)))))

in_argument : (place : ℕ) → count_in_argument (argument place) ≡ 0
in_argument place = value_argument (argument place) (raw.column place) refl ∙ in_column place

in_table : (name : List ℕ) (names : List (List ℕ)) (types : List RawType) → relation_count (raw.table name names types) ≡ 1
in_table name names types =
    let reads = source.NamedTable (named name) in
    read_relation (raw.table name names types) None (Some (schema names types)) None None reads None refl
    ∙ ap (λ count. 1 + count + 0) (none_in_source reads (inr (inr (named name, refl))))

in_condition : count_in_expression raw.is_of_order ≡ 0
in_condition = scalar_function_expression raw.is_of_order 1 (Some (t.Bool 1)) both [] refl ∙ (λ i. 0 + in_argument 0 i + in_argument 2 i)

-- the lines joined to their orders
in_join : relation_count raw.ordered_lines ≡ 3
in_join =
    join_relation raw.ordered_lines None (Some raw.lines) (Some raw.orders) (Some raw.is_of_order) None 1 refl
    ∙ (λ i. 1 + in_table (codes "lines") raw.line_names (raw.whole_type ∷ raw.whole_type ∷ []) i + in_table (codes "orders") raw.order_names (raw.whole_type ∷ raw.text_type ∷ []) i + in_condition i + 0)

-- by region: the sum and the count of the quantities
in_grouping : count_in_grouping grouping ≡ 0
in_grouping =
    opened_grouping grouping
    ∙ ap (λ (level : Opened Grouping-F). sum_by count_in_expression level.grouping_expressions) out_grouping
    ∙ (λ i. 0 + in_column 3 i)

in_function : (function : ℕ) (ty : RawType) → count_in_function (function_of function ty) ≡ 0
in_function function ty =
    opened_function (function_of function ty)
    ∙ ap (λ (level : Opened AggregateFunction-F). sum_by count_in_sort level.sorts + sum_by count_in_argument level.arguments) (out_function function ty)
    ∙ (λ i. 0 + (0 + in_argument 1 i))

in_measure : (function : ℕ) (ty : RawType) → count_in_measure (raw.measure_of function ty) ≡ 0
in_measure function ty =
    opened_measure (raw.measure_of function ty)
    ∙ ap (λ (level : Opened Measure-F). held (option_map count_in_expression level.filter) + held (option_map count_in_function level.measure)) (out_measure function ty)
    ∙ (λ i. 0 + in_function function ty i)

in_regions : relation_count raw.regions ≡ 4
in_regions =
    aggregate_relation raw.regions None (Some raw.ordered_lines) (grouping ∷ []) (raw.measure_of 2 (t.I64 1) ∷ raw.measure_of 3 (t.I64 2) ∷ []) [] refl
    ∙ (λ i. 1 + in_join i + (0 + in_grouping i) + 0 + (0 + in_measure 2 (t.I64 1) i + in_measure 3 (t.I64 2) i))

-- the regions from the least on
in_key : count_in_sort key ≡ 0
in_key =
    opened_sort key
    ∙ ap (λ (level : Opened SortField-F). held (option_map count_in_expression level.expr)) out_key
    ∙ in_column 0

pub five_relations : relation_count raw.ordered_regions ≡ 5
five_relations =
    sort_relation raw.ordered_regions None (Some raw.regions) (key ∷ []) refl
    ∙ (λ i. 1 + in_regions i + (0 + in_key i))
