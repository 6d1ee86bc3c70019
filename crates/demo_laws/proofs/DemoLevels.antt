-- The demo's plan by its levels: what it denotes, by the rows of its two tables.
use Rattle.std.proofs.Common.{◌≡◌, ◌∙◌, ℕ, ◌+◌, List, [], ◌∷◌, true, false, Option, Some, None, Ok, map, length, slice_index_or, is_none, cond, codes, sym, ap, rules}
use Rattle.std.specs.List.{filter, filter_map, cons_option}
use Rattle.sub_types.specs.Stream.{Stream}
use Rattle.sub_types.specs.declared.kind.Kind.TheVariants as kinds
use Rattle.sub_types.specs.declared.kind.Ty.{Ty}
use Rattle.sub_types.specs.declared.value.Value.TheVariants as values
use Rattle.plan_typed.specs.declared.expr.Expr.{Expr, Expr-F, out-Expr, roll-Expr, out-roll-Expr}
use Rattle.plan_typed.specs.declared.expr.Expr.{the_lemmas as expr_lemmas}
use Rattle.plan_typed.specs.declared.expr.Expr.TheVariants as e
use Rattle.plan_typed.specs.declared.expr.Func.TheVariants as funcs
use Rattle.plan_typed.specs.declared.expr.Overflow.TheVariants as modes
use Rattle.plan_typed.specs.declared.rel.JoinKind.TheVariants as joins
use Rattle.plan_typed.specs.declared.rel.Op.{Op, the_lemmas}
use Rattle.plan_typed.specs.declared.rel.Op.TheVariants as ops
use Rattle.plan_typed.specs.declared.rel.Rel.{Rel, Rel-F, out-Rel, roll-Rel, out-roll-Rel}
use Rattle.plan_typed.specs.declared.rel.Source.TheVariants as sources
use Rattle.plan_typed.specs.declared.rel.TypedMeasure.{TypedMeasure}
use Rattle.plan_denote.specs.Rows.{Row, Formula, condition_of}
use Rattle.plan_denote.specs.Conjuncts.{Key, key_between, key_at, key_in, keys_of, rest_of, conjuncts}
use Rattle.plan_denote.specs.Eval.{eval}
use Rattle.plan_denote.specs.Read.{read_rows}
use Rattle.plan_denote.specs.Filter.{filtered}
use Rattle.plan_denote.specs.Project.{emitted}
use Rattle.plan_denote.specs.Sort.{Direction, sorted}
use Rattle.plan_denote.specs.Aggregate.{Measure, aggregated}
use Rattle.plan_denote.specs.Join.{Join, match_of, joined}
use Rattle.plan_denote.specs.Denote.{Tables, answer_of, direct, denote, join_of}
use Rattle.plan_denote.specs.Holes.{Worth, Filled, size_of_all, size_of_measure, filled, filled_expr, filled_level}
use Rattle.plan_denote.specs.Subqueries.{denote_plan}
use Rattle.plan_denote.proofs.EvalLaws.{eval-Column}
use Rattle.plan_denote.proofs.ConjunctLaws.{conjuncts_in, conjuncts_are}
use Rattle.plan_denote.proofs.DenoteLaws.{direct-Read, direct-Join, direct-Aggregate, direct-Sort, denotes, width_is}
use Rattle.gen_data.specs.Plan.{line_names, order_names}
use Rattle.gen_data.specs.Checked.{whole_type, text_type, count_type, result_types, line_types, order_types, table, lines, orders, is_of_order, ordered_lines, measures, regions, ordered_regions, demo_plan}

-- a column of a row
abbrev pub column_at : ℕ → Formula
column_at index row = Ok (slice_index_or row index values.Null)

-- the sum and the count of the quantities
abbrev sums_of : Formula → List Measure
sums_of quantity =
    record { func = funcs.Sum; arg = Some quantity; filter = None; kind = kinds.I64 }
    ∷ record { func = funcs.Count; arg = Some quantity; filter = None; kind = kinds.I64 }
    ∷ []

abbrev pub sum_and_count : List Measure
sum_and_count = sums_of (column_at 1)

-- a line's order has its number
abbrev pub by_order : Join
by_order = record { number = 2; left_width = 2; right_width = 2; matches = match_of (record { left = 0; right = 0 } ∷ []) [] }

-- ascending, nulls first
abbrev pub rising : List Direction
rising = record { descending = false; nulls_first = true } ∷ []

abbrev pub read_table : ℕ → List Ty → Stream Row → Stream Row
read_table number types rows = emitted (0 ∷ 1 ∷ []) (read_rows number types (condition_of None) (0 ∷ 1 ∷ []) rows)

abbrev pub ordered_by : Join → Stream Row → Stream Row → Stream Row
ordered_by join lines orders = emitted (0 ∷ 1 ∷ 2 ∷ 3 ∷ []) (filtered 2 (condition_of None) (joined joins.Inner join lines orders))

abbrev pub ordered_rows : Stream Row → Stream Row → Stream Row
ordered_rows = ordered_by by_order

abbrev pub region_rows : Stream Row → Stream Row
region_rows rows = emitted (0 ∷ 1 ∷ 2 ∷ []) (aggregated 1 (column_at 3 ∷ []) sum_and_count rows)

abbrev pub sorted_regions : Stream Row → Stream Row
sorted_regions rows = emitted (0 ∷ 1 ∷ 2 ∷ []) (sorted 0 (column_at 0 ∷ []) rising rows)

-- what the plan denotes over the rows of its tables
abbrev pub demo_over : Stream Row → Stream Row → Stream Row
demo_over lines orders = sorted_regions (region_rows (ordered_rows (read_table 3 line_types lines) (read_table 4 order_types orders)))

columns_eval : (index : ℕ) (ty : Ty) → eval (e.Column index ty) ≡ column_at index
columns_eval index ty = λ i row. eval-Column index ty row i

-- a relation by its level
rolled : (tables : Tables) (level : Rel-F Op Rel) → denote tables (roll-Rel level) ≡ emitted level.emit (direct tables level.op level.number)
rolled tables level = denotes tables (roll-Rel level) ∙ ap (λ (one : Rel-F Op Rel). emitted one.emit (direct tables one.op one.number)) (out-roll-Rel level)

rolled_width : (tables : Tables) (level : Rel-F Op Rel) → (answer_of tables (roll-Rel level)).width ≡ length level.columns
rolled_width tables level = width_is tables (roll-Rel level) ∙ ap (λ (one : Rel-F Op Rel). length one.columns) (out-roll-Rel level)

table_denotes : (tables : Tables) (number : ℕ) (name : List ℕ) (names : List (List ℕ)) (types : List Ty) → denote tables (table number name names types) ≡ read_table number types (tables number)
table_denotes tables number name names types =
    rolled tables _ ∙ ap (emitted (0 ∷ 1 ∷ [])) (direct-Read tables (sources.Named (name ∷ [])) names types None (0 ∷ 1 ∷ []) number)

out_column : (index : ℕ) (ty : Ty) → out-Expr (e.Column index ty) ≡ Expr-F.Column index ty
out_column index ty = ap out-Expr (sym (e.rolls-Column index ty)) ∙ out-roll-Expr (Expr-F.Column index ty)

abbrev order_level : Expr-F Expr
order_level = Expr-F.Call funcs.Equal modes.Error (e.Column 0 whole_type ∷ e.Column 2 whole_type ∷ []) (record { kind = kinds.Bool; nullable = true })

order_rolls : roll-Expr order_level ≡ is_of_order
order_rolls = e.rolls-Call funcs.Equal modes.Error (e.Column 0 whole_type ∷ e.Column 2 whole_type ∷ []) (record { kind = kinds.Bool; nullable = true })

order_out : out-Expr is_of_order ≡ order_level
order_out = ap out-Expr (sym order_rolls) ∙ out-roll-Expr order_level

order_conjuncts : conjuncts is_of_order ≡ is_of_order ∷ []
order_conjuncts = conjuncts_are is_of_order ∙ ap (conjuncts_in is_of_order) order_out

order_key : key_in 2 is_of_order ≡ Some (record { left = 0; right = 0 })
order_key = ap (key_at 2) order_out ∙ (λ i. key_between 2 (out_column 0 whole_type i) (out_column 2 whole_type i))

order_keys : keys_of 2 is_of_order ≡ record { left = 0; right = 0 } ∷ []
unfolding keys_of
order_keys = ap (filter_map (key_in 2)) order_conjuncts ∙ ap (λ (key : Option Key). cons_option key []) order_key

order_rest : rest_of 2 is_of_order ≡ []
unfolding rest_of
order_rest = ap (filter (λ one. is_none (key_in 2 one))) order_conjuncts ∙ ap (λ (key : Option Key). cond (is_none key) (is_of_order ∷ []) []) order_key

order_join : join_of 2 2 2 is_of_order ≡ by_order
unfolding join_of
order_join = λ i. record { number = 2; left_width = 2; right_width = 2; matches = match_of (order_keys i) (map eval (order_rest i)) }

join_denotes : (tables : Tables) → denote tables ordered_lines ≡ ordered_rows (denote tables lines) (denote tables orders)
join_denotes tables =
    rolled tables _
    ∙ ap (emitted (0 ∷ 1 ∷ 2 ∷ 3 ∷ [])) (direct-Join tables lines orders joins.Inner is_of_order None 2)
    ∙ ap (λ (one : Join). ordered_by one (denote tables lines) (denote tables orders)) ((λ i. join_of 2 (rolled_width tables (out-Rel lines) i) (rolled_width tables (out-Rel orders) i) is_of_order) ∙ order_join)

regions_denote : (tables : Tables) → denote tables regions ≡ region_rows (denote tables ordered_lines)
regions_denote tables =
    rolled tables _
    ∙ ap (emitted (0 ∷ 1 ∷ 2 ∷ [])) (direct-Aggregate tables ordered_lines (e.Column 3 text_type ∷ []) measures 1)
    ∙ (λ i. emitted (0 ∷ 1 ∷ 2 ∷ []) (aggregated 1 (columns_eval 3 text_type i ∷ []) (sums_of (columns_eval 1 whole_type i)) (denote tables ordered_lines)))

sorted_denote : (tables : Tables) → denote tables ordered_regions ≡ sorted_regions (denote tables regions)
sorted_denote tables =
    rolled tables _
    ∙ ap (emitted (0 ∷ 1 ∷ 2 ∷ [])) (direct-Sort tables regions (record { expr = e.Column 0 text_type; descending = false; nulls_first = true } ∷ []) 0)
    ∙ (λ i. emitted (0 ∷ 1 ∷ 2 ∷ []) (sorted 0 (columns_eval 0 text_type i ∷ []) rising (denote tables regions)))

-- the levels above the tables, by their inputs and expressions
abbrev join_rel : Rel → Rel → Expr → Rel
join_rel left right on = roll-Rel (record {
  number = 2;
  op = ops.Join left right joins.Inner on None;
  emit = 0 ∷ 1 ∷ 2 ∷ 3 ∷ [];
  columns = whole_type ∷ whole_type ∷ whole_type ∷ text_type ∷ [];
})

abbrev regions_rel : Rel → Expr → Expr → Expr → Rel
regions_rel input region summed counted = roll-Rel (record {
  number = 1;
  op = ops.Aggregate input (region ∷ []) (record { func = funcs.Sum; arg = Some summed; filter = None; ty = whole_type } ∷ record { func = funcs.Count; arg = Some counted; filter = None; ty = count_type } ∷ []);
  emit = 0 ∷ 1 ∷ 2 ∷ [];
  columns = result_types;
})

abbrev sort_rel : Rel → Expr → Rel
sort_rel input key = roll-Rel (record {
  number = 0;
  op = ops.Sort input (record { expr = key; descending = false; nulls_first = true } ∷ []);
  emit = 0 ∷ 1 ∷ 2 ∷ [];
  columns = result_types;
})

-- no values are put in
abbrev nothing : ℕ → Option Worth
nothing number = None

column_law : (index : ℕ) (ty : Ty) → filled_expr nothing (e.Column index ty) ≡ filled_level nothing (Expr-F.Column index ty)
column_law index ty = search (rules, expr_lemmas)

column_filled : (number index : ℕ) (ty : Ty) → (filled_expr nothing (e.Column index ty)).at number ≡ e.Column index ty
column_filled number index ty = ap (λ (one : Filled). one.at number) (column_law index ty) ∙ e.rolls-Column index ty

order_law : filled_expr nothing is_of_order
    ≡ filled_level nothing (Expr-F.Call funcs.Equal modes.Error (filled_expr nothing (e.Column 0 whole_type) ∷ filled_expr nothing (e.Column 2 whole_type) ∷ []) (record { kind = kinds.Bool; nullable = true }))
order_law = search (rules, expr_lemmas)

order_filled : (filled_expr nothing is_of_order).at 0 ≡ is_of_order
order_filled =
    ap (λ (one : Filled). one.at 0) order_law
    ∙ (λ i. roll-Expr (Expr-F.Call funcs.Equal modes.Error (column_filled 1 0 whole_type i ∷ column_filled (1 + (filled_expr nothing (e.Column 0 whole_type)).size) 2 whole_type i ∷ []) (record { kind = kinds.Bool; nullable = true })))
    ∙ order_rolls

table_filled : (number : ℕ) (name : List ℕ) (names : List (List ℕ)) (types : List Ty) → filled [] (table number name names types) ≡ table number name names types
unfolding filled
table_filled number name names types = search (rules, the_lemmas)

join_law : (left right : Rel) → filled [] (join_rel left right is_of_order) ≡ join_rel (filled [] left) (filled [] right) ((filled_expr nothing is_of_order).at 0)
unfolding filled
join_law left right = search (rules, the_lemmas)

-- the first nodes of the measures' arguments
abbrev first_node : ℕ
first_node = size_of_all nothing (e.Column 3 text_type ∷ [])

abbrev sum_measure : TypedMeasure
sum_measure = record { func = funcs.Sum; arg = Some (e.Column 1 whole_type); filter = None; ty = whole_type }

regions_law : (input : Rel) → filled [] (regions_rel input (e.Column 3 text_type) (e.Column 1 whole_type) (e.Column 1 whole_type))
    ≡ regions_rel (filled [] input) ((filled_expr nothing (e.Column 3 text_type)).at 0) ((filled_expr nothing (e.Column 1 whole_type)).at (first_node + 0)) ((filled_expr nothing (e.Column 1 whole_type)).at (first_node + size_of_measure nothing sum_measure + 0))
unfolding filled
regions_law input = search (rules, the_lemmas)

sort_law : (input : Rel) → filled [] (sort_rel input (e.Column 0 text_type)) ≡ sort_rel (filled [] input) ((filled_expr nothing (e.Column 0 text_type)).at 0)
unfolding filled
sort_law input = search (rules, the_lemmas)

join_filled : filled [] ordered_lines ≡ ordered_lines
join_filled = join_law lines orders ∙ (λ i. join_rel (table_filled 3 (codes "lines") line_names line_types i) (table_filled 4 (codes "orders") order_names order_types i) (order_filled i))

regions_filled : filled [] regions ≡ regions
regions_filled =
    regions_law ordered_lines
    ∙ (λ i. regions_rel (join_filled i) (column_filled 0 3 text_type i) (column_filled (first_node + 0) 1 whole_type i) (column_filled (first_node + size_of_measure nothing sum_measure + 0) 1 whole_type i))

plan_filled : filled [] ordered_regions ≡ ordered_regions
plan_filled = sort_law regions ∙ (λ i. sort_rel (regions_filled i) (column_filled 0 0 text_type i))

-- the plan has no subqueries
pub denotes_over : (tables : Tables) → denote_plan tables demo_plan ≡ demo_over (tables 3) (tables 4)
unfolding denote_plan demo_plan
denotes_over tables =
    ap (denote tables) plan_filled
    ∙ sorted_denote tables
    ∙ ap sorted_regions (regions_denote tables ∙ ap region_rows (join_denotes tables ∙ (λ i. ordered_rows (table_denotes tables 3 (codes "lines") line_names line_types i) (table_denotes tables 4 (codes "orders") order_names order_types i))))
