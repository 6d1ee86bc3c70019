-- The demo's plan is accepted: what each of its messages is checked as, from the leaves.
use Rattle.std.proofs.Common.{◌≡◌, ◌∙◌, ◌+◌, ℕ, List, [], ◌∷◌, ◌++◌, true, false, Some, None, Result, Ok, map, refl, sym, ap, rules}
use Rattle.std.specs.Option.{option_map}
use Rattle.std.specs.Prelude.{codes, ◌||◌, ◌==◌, length, nat_le}
use Rattle.sub_types.specs.declared.kind.Kind.TheVariants as kinds
use Rattle.sub_types.specs.declared.kind.Ty.{Ty}
use Rattle.plan_leaves.specs.declared.types.RawType.{RawType}
use Rattle.plan_leaves.specs.declared.types.RawType.TheVariants as t
use Rattle.plan_raw.specs.declared.aggregate.AggregateFunction.{AggregateFunction-F}
use Rattle.plan_raw.specs.declared.aggregate.Grouping.{Grouping-F}
use Rattle.plan_raw.specs.declared.aggregate.Measure.{Measure-F}
use Rattle.plan_raw.specs.declared.aggregate.SortField.{SortField-F}
use Rattle.plan_raw.specs.declared.expr.RawExpr.{RawExpr-F, the_lemmas}
use Rattle.plan_raw.specs.declared.rel.RawRel.{RawRel-F}
use Rattle.plan_raw.specs.declared.source.RawSource.{RawSource-F}
use Rattle.plan_raw.specs.declared.source.RawSource.TheVariants as source
use Rattle.plan_tree.specs.Fold.{Opened}
use Rattle.plan_tree.specs.Numbering.{relation_count}
use Rattle.plan_typed.specs.declared.expr.Expr.{Expr, Expr-F, out-roll-Expr}
use Rattle.plan_typed.specs.declared.expr.Expr.TheVariants as e
use Rattle.plan_typed.specs.declared.expr.Func.{Func}
use Rattle.plan_typed.specs.declared.expr.Func.TheVariants as funcs
use Rattle.plan_typed.specs.declared.expr.Overflow.{Overflow}
use Rattle.plan_typed.specs.declared.expr.Overflow.TheVariants as modes
use Rattle.plan_typed.specs.declared.rel.JoinKind.TheVariants as joins
use Rattle.plan_typed.specs.declared.rel.Op.{Op}
use Rattle.plan_typed.specs.declared.rel.Op.TheVariants as ops
use Rattle.plan_typed.specs.declared.rel.Rel.{Rel, Rel-F, roll-Rel, out-roll-Rel}
use Rattle.plan_typed.specs.declared.rel.SetMeasure.{SetMeasure}
use Rattle.plan_typed.specs.declared.rel.SortKey.{SortKey}
use Rattle.plan_typed.specs.declared.rel.Source.TheVariants as sources
use Rattle.plan_typed.specs.declared.rel.Typed.{Typed}
use Rattle.plan_typed.specs.declared.rel.TypedMeasure.{TypedMeasure}
use Rattle.plan_typed.specs.Types.{ty_of, ty_in, columns_of}
use Rattle.func_table.specs.declared.row.Class.TheVariants as classes
use Rattle.func_table.specs.Kinds.{is_equal}
use Rattle.func_table.specs.Table.{table}
use Rattle.plan_verdict.specs.declared.call.Call.{Call}
use Rattle.plan_verdict.specs.declared.progress.Progress.{Progress}
use Rattle.plan_verdict.specs.declared.rule.Rule.TheVariants as rules_of
use Rattle.plan_verdict.proofs.FoldLaws.{checked_grouping-out, checked_measure-out, checked_sort-out, checked_expr-ScalarFunction, checked_expr-Selection, checked_argument-Value, checked_rel-Read, checked_rel-Join, checked_rel-Aggregate, checked_rel-Sort, checked_source-NamedTable}
use Rattle.plan_verdict.specs.Aggregates.{aggregate_function, measure_in, measured, groups_in, aggregate_op, aggregate_columns}
use Rattle.plan_verdict.specs.Calls.{Named, named_in, call_in}
use Rattle.plan_verdict.specs.Checking.{Checking, Refusal, go_on, in_order, ◌>>=◌, ◌>>◌, accept, part, must}
use Rattle.plan_verdict.specs.Exprs.{Terms, expression, condition}
use Rattle.plan_verdict.specs.Meaning.{Scope, Expression, Sets, Checked}
use Rattle.plan_verdict.specs.Reads.{source_in}
use Rattle.plan_verdict.specs.Relation.{numbered, finished}
use Rattle.plan_verdict.specs.Rels.{over, join_over, sort_key}
use Rattle.plan_verdict.specs.Verdict.{member, checked_argument, checked_expr, checked_rel, MAX_RELATIONS, start, holed, verdict, checked_function, checked_grouping, checked_measure, checked_sort}
use Rattle.gen_data.specs.Checked as typed
use Rattle.gen_data.specs.Plan as raw
use Rattle.demo_laws.proofs.CountedLaws.{five_relations}
use Rattle.demo_laws.proofs.OpenedLaws.{segment, argument, both, schema, named, grouping, out_grouping, function_of, out_measure, key, out_key}

-- what the plan declares
abbrev terms : Terms
terms = record { declared = record { uris = raw.uris; functions = raw.functions }; with_subqueries = true }

-- so many relations are numbered, and so many expressions of the last
abbrev so_far : ℕ → ℕ → Progress
so_far relations nodes = record { relations = relations; nodes = nodes; subs = [] }

-- the one and then the other
then_is : {A B : Type 0} (found : Result (A × Progress) Refusal) (next : A → Checking B) (value : A) (after : Progress) (end : Result (B × Progress) Refusal) → found ≡ Ok (value, after) → next value after ≡ end → go_on found next ≡ end
then_is found next value after end e f = ap (λ (r : Result _ Refusal). go_on r next) e ∙ f

-- a relation has the next number, and its expressions are numbered on their own
numbered_is : (relation : ℕ → Checking Rel) (rel : Rel) (number outer relations nodes : ℕ) → relation number (so_far (number + 1) 0) ≡ Ok (rel, so_far relations nodes) → numbered relation (so_far number outer) ≡ Ok (rel, so_far relations outer)
numbered_is relation rel number outer relations nodes e = then_is (relation number (so_far (number + 1) 0)) _ rel (so_far relations nodes) (Ok (rel, so_far relations outer)) e refl

-- a column of the input
abbrev selection : ℕ → Checked RawExpr-F
selection place = RawExpr-F.Selection (Some (segment place)) true false

column_is : (place : ℕ) → checked_expr terms (raw.column place) ≡ expression terms (selection place)
column_is place = checked_expr-Selection terms (Some (segment place)) true false

argument_is : (place : ℕ) → checked_argument terms (argument place) ≡ Some (expression terms (selection place))
argument_is place = checked_argument-Value terms (raw.column place) ∙ ap Some (column_is place)

-- the types of columns and calls, and the columns of relations
column_type : (place : ℕ) (ty : Ty) → ty_of (e.Column place ty) ≡ ty
column_type place ty = ap ty_of (sym (e.rolls-Column place ty)) ∙ ap ty_in (out-roll-Expr (Expr-F.Column place ty))

call_type : (func : Func) (mode : Overflow) (args : List Expr) (ty : Ty) → ty_of (e.Call func mode args ty) ≡ ty
call_type func mode args ty = ap ty_of (sym (e.rolls-Call func mode args ty)) ∙ ap ty_in (out-roll-Expr (Expr-F.Call func mode args ty))

rel_columns : (number : ℕ) (op : Op) (emit : List ℕ) (columns : List Ty) → columns_of (roll-Rel (record { number = number; op = op; emit = emit; columns = columns })) ≡ columns
rel_columns number op emit columns = ap (λ (level : Rel-F Op Rel). level.columns) (out-roll-Rel (record { number = number; op = op; emit = emit; columns = columns }))

table_columns : (number : ℕ) (name : List ℕ) (names : List (List ℕ)) (types : List Ty) → columns_of (typed.table number name names types) ≡ types
table_columns number name names types = rel_columns number (ops.Read (sources.Named (name ∷ [])) names types None (0 ∷ 1 ∷ [])) (0 ∷ 1 ∷ []) types

-- the tables
table_is : (name : List ℕ) (names : List (List ℕ)) (types : List RawType) → checked_rel terms (raw.table name names types) ≡ member (RawRel-F.Read None (Some (schema names types)) None None (source_in (RawSource-F.NamedTable (named name))) None)
table_is name names types =
    checked_rel-Read terms None (Some (schema names types)) None None (source.NamedTable (named name)) None
    ∙ ap (λ one. member (RawRel-F.Read None (Some (schema names types)) None None one None)) (checked_source-NamedTable terms (named name))

lines_checked : checked_rel terms raw.lines 3 (so_far 4 0) ≡ Ok (typed.lines, so_far 4 0)
lines_checked = ap (λ relation. relation 3 (so_far 4 0)) (table_is (codes "lines") raw.line_names (raw.whole_type ∷ raw.whole_type ∷ []))

orders_checked : checked_rel terms raw.orders 4 (so_far 5 0) ≡ Ok (typed.orders, so_far 5 0)
orders_checked = ap (λ relation. relation 4 (so_far 5 0)) (table_is (codes "orders") raw.order_names (raw.whole_type ∷ raw.text_type ∷ []))

-- a line is of an order: the call of `equal` over the columns of both
abbrev joined_types : List Ty
joined_types = typed.whole_type ∷ typed.whole_type ∷ typed.whole_type ∷ typed.text_type ∷ []

abbrev of_both : Scope
of_both = record { relation = 2; columns = joined_types }

is_of_order_is : checked_expr terms raw.is_of_order ≡ expression terms (RawExpr-F.ScalarFunction 1 (Some (t.Bool 1)) (Some (expression terms (selection 0)) ∷ Some (expression terms (selection 2)) ∷ []) [])
is_of_order_is =
    checked_expr-ScalarFunction terms 1 (Some (t.Bool 1)) both []
    ∙ (λ i. expression terms (RawExpr-F.ScalarFunction 1 (Some (t.Bool 1)) (argument_is 0 i ∷ argument_is 2 i ∷ []) []))

abbrev equal : Named
equal = record { file = codes "functions_comparison.yaml"; name = codes "equal"; declared = codes "equal:any_any" }

abbrev truth_type : Ty
truth_type = record { kind = kinds.Bool; nullable = true }

equal_named : named_in terms.declared classes.Scalar 1 ≡ Ok equal
unfolding table
equal_named = refl

equal_called : call_in equal classes.Scalar (typed.whole_type ∷ typed.whole_type ∷ []) (Some (t.Bool 1)) [] ≡ Ok (record { func = funcs.Equal; mode = modes.Error; ty = truth_type })
unfolding table
equal_called = refl

abbrev equal_call : Call
equal_call = record { func = funcs.Equal; mode = modes.Error; ty = truth_type }

-- the same by the columns that the call is given
equal_found : call_in equal classes.Scalar (map ty_of (e.Column 0 typed.whole_type ∷ e.Column 2 typed.whole_type ∷ [])) (Some (t.Bool 1)) [] ≡ Ok equal_call
equal_found = (λ i. call_in equal classes.Scalar (column_type 0 typed.whole_type i ∷ column_type 2 typed.whole_type i ∷ []) (Some (t.Bool 1)) []) ∙ equal_called

is_of_order_checked : (checked_expr terms raw.is_of_order).check of_both (so_far 5 0) ≡ Ok (typed.is_of_order, so_far 5 3)
is_of_order_checked =
    ap (λ (one : Expression). one.check of_both (so_far 5 0)) is_of_order_is
    ∙ then_is (part 2 (named_in terms.declared classes.Scalar 1) (so_far 5 1)) _ equal (so_far 5 1) (Ok (typed.is_of_order, so_far 5 3)) (ap (λ found. part 2 found (so_far 5 1)) equal_named)
    (then_is (part 2 (call_in equal classes.Scalar (map ty_of (e.Column 0 typed.whole_type ∷ e.Column 2 typed.whole_type ∷ [])) (Some (t.Bool 1)) []) (so_far 5 3)) _ equal_call (so_far 5 3) (Ok (typed.is_of_order, so_far 5 3)) (ap (λ found. part 2 found (so_far 5 3)) equal_found) refl)

is_of_order_type : ty_of typed.is_of_order ≡ truth_type
is_of_order_type = call_type funcs.Equal modes.Error (e.Column 0 typed.whole_type ∷ e.Column 2 typed.whole_type ∷ []) truth_type

condition_checked : condition of_both (Some (checked_expr terms raw.is_of_order)) (so_far 5 0) ≡ Ok (typed.is_of_order, so_far 5 3)
condition_checked =
    then_is ((checked_expr terms raw.is_of_order).check of_both (so_far 5 0)) _ typed.is_of_order (so_far 5 3) (Ok (typed.is_of_order, so_far 5 3)) is_of_order_checked
    (ap (λ (ty : Ty). (must 2 (is_equal ty.kind kinds.Bool) rules_of.TypeMismatch >> accept typed.is_of_order) (so_far 5 3)) is_of_order_type)

-- the lines joined to their orders
abbrev join_of : List Ty → List Ty → Result (Rel × Progress) Refusal
join_of left right =
    (condition (over 2 (left ++ right)) (Some (checked_expr terms raw.is_of_order)) >>= (λ on. finished 2 None (ops.Join typed.lines typed.orders joins.Inner on None) (left ++ right))) (so_far 5 0)

join_is : join_over 2 None typed.lines typed.orders joins.Inner (Some (checked_expr terms raw.is_of_order)) None (so_far 5 0) ≡ Ok (typed.ordered_lines, so_far 5 3)
join_is =
    (λ i. join_of (table_columns 3 (codes "lines") raw.line_names typed.line_types i) (table_columns 4 (codes "orders") raw.order_names typed.order_types i))
    ∙ then_is (condition of_both (Some (checked_expr terms raw.is_of_order)) (so_far 5 0)) _ typed.is_of_order (so_far 5 3) (Ok (typed.ordered_lines, so_far 5 3)) condition_checked refl

ordered_lines_checked : checked_rel terms raw.ordered_lines 2 (so_far 3 0) ≡ Ok (typed.ordered_lines, so_far 5 3)
ordered_lines_checked =
    ap (λ relation. relation 2 (so_far 3 0)) (checked_rel-Join terms None (Some raw.lines) (Some raw.orders) (Some raw.is_of_order) None 1)
    ∙ then_is (numbered (checked_rel terms raw.lines) (so_far 3 0)) _ typed.lines (so_far 4 0) (Ok (typed.ordered_lines, so_far 5 3)) (numbered_is (checked_rel terms raw.lines) typed.lines 3 0 4 0 lines_checked)
    (then_is (numbered (checked_rel terms raw.orders) (so_far 4 0)) _ typed.orders (so_far 5 0) (Ok (typed.ordered_lines, so_far 5 3)) (numbered_is (checked_rel terms raw.orders) typed.orders 4 0 5 0 orders_checked) join_is)

-- by region, the first column that the orders add
abbrev of_lines : Scope
of_lines = record { relation = 1; columns = joined_types }

grouping_is : checked_grouping terms grouping ≡ record { expressions = expression terms (selection 3) ∷ []; references = [] }
grouping_is =
    checked_grouping-out terms grouping
    ∙ ap (λ (level : Opened Grouping-F). record { expressions = map (checked_expr terms) level.grouping_expressions; references = level.expression_references }) out_grouping
    ∙ (λ i. record { expressions = column_is 3 i ∷ []; references = [] })

-- an aggregate function of the quantities
abbrev quantities : ℕ → RawType → Checked AggregateFunction-F
quantities function ty = record { function_reference = function; sorts = []; phase = 3; output_type = Some ty; invocation = 1; arguments = Some (expression terms (selection 1)) ∷ []; options = [] }

function_opened : (function : ℕ) (ty : RawType) → checked_function terms (function_of function ty) ≡ aggregate_function terms (record { function_reference = function; sorts = []; phase = 3; output_type = Some ty; invocation = 1; arguments = checked_argument terms (argument 1) ∷ []; options = [] })
unfolding checked_function checked_argument
function_opened function ty = search (rules, the_lemmas)

function_is : (function : ℕ) (ty : RawType) → checked_function terms (function_of function ty) ≡ aggregate_function terms (quantities function ty)
function_is function ty =
    function_opened function ty
    ∙ (λ i. aggregate_function terms (record { function_reference = function; sorts = []; phase = 3; output_type = Some ty; invocation = 1; arguments = argument_is 1 i ∷ []; options = [] }))

measure_is : (function : ℕ) (ty : RawType) → checked_measure terms (raw.measure_of function ty) ≡ measure_in (Some (aggregate_function terms (quantities function ty))) None
measure_is function ty =
    checked_measure-out terms (raw.measure_of function ty)
    ∙ ap (λ (level : Opened Measure-F). measure_in (option_map (checked_function terms) level.measure) (option_map (checked_expr terms) level.filter)) (out_measure function ty)
    ∙ ap (λ one. measure_in (Some one) None) (function_is function ty)

abbrev sum : Named
sum = record { file = codes "functions_arithmetic.yaml"; name = codes "sum"; declared = codes "sum:i64" }

abbrev count : Named
count = record { file = codes "functions_aggregate_generic.yaml"; name = codes "count"; declared = codes "count:any" }

sum_named : named_in terms.declared classes.Aggregate 2 ≡ Ok sum
unfolding table
sum_named = refl

count_named : named_in terms.declared classes.Aggregate 3 ≡ Ok count
unfolding table
count_named = refl

abbrev sum_call : Call
sum_call = record { func = funcs.Sum; mode = modes.Error; ty = typed.whole_type }

abbrev count_call : Call
count_call = record { func = funcs.Count; mode = modes.Error; ty = typed.count_type }

sum_called : call_in sum classes.Aggregate (typed.whole_type ∷ []) (Some (t.I64 1)) [] ≡ Ok sum_call
unfolding table
sum_called = refl

count_called : call_in count classes.Aggregate (typed.whole_type ∷ []) (Some (t.I64 2)) [] ≡ Ok count_call
unfolding table
count_called = refl

-- a measure by the call that it is
measured_is : (function : ℕ) (ty : RawType) (found : Named) (call : Call) (nodes : ℕ) → named_in terms.declared classes.Aggregate function ≡ Ok found → call_in found classes.Aggregate (typed.whole_type ∷ []) (Some ty) [] ≡ Ok call
    → measured terms function (Some ty) (Some (expression terms (selection 1)) ∷ []) [] of_lines None (so_far 5 nodes) ≡ Ok (record { func = call.func; arg = Some typed.quantity; filter = None; ty = call.ty }, so_far 5 (nodes + 1))
measured_is function ty found call nodes is_named is_called =
    let end = Ok (record { func = call.func; arg = Some typed.quantity; filter = None; ty = call.ty }, so_far 5 (nodes + 1)) in
    then_is (part 1 (named_in terms.declared classes.Aggregate function) (so_far 5 nodes)) _ found (so_far 5 nodes) end (ap (λ one. part 1 one (so_far 5 nodes)) is_named)
    (then_is (part 1 (call_in found classes.Aggregate (map ty_of (typed.quantity ∷ [])) (Some ty) []) (so_far 5 (nodes + 1))) _ call (so_far 5 (nodes + 1)) end
    ((λ i. part 1 (call_in found classes.Aggregate (column_type 1 typed.whole_type i ∷ []) (Some ty) []) (so_far 5 (nodes + 1))) ∙ ap (λ one. part 1 one (so_far 5 (nodes + 1))) is_called) refl)

abbrev in_measures : TypedMeasure → SetMeasure
in_measures measure = record { measure = measure; distinct = false }

abbrev sum_measure : TypedMeasure
sum_measure = record { func = funcs.Sum; arg = Some typed.quantity; filter = None; ty = typed.whole_type }

abbrev count_measure : TypedMeasure
count_measure = record { func = funcs.Count; arg = Some typed.quantity; filter = None; ty = typed.count_type }

sum_checked : measure_in (Some (aggregate_function terms (quantities 2 (t.I64 1)))) None of_lines (so_far 5 1) ≡ Ok (in_measures sum_measure, so_far 5 2)
sum_checked =
    then_is (measured terms 2 (Some (t.I64 1)) (Some (expression terms (selection 1)) ∷ []) [] of_lines None (so_far 5 1)) _ sum_measure (so_far 5 2) (Ok (in_measures sum_measure, so_far 5 2))
    (measured_is 2 (t.I64 1) sum sum_call 1 sum_named sum_called) refl

count_checked : measure_in (Some (aggregate_function terms (quantities 3 (t.I64 2)))) None of_lines (so_far 5 2) ≡ Ok (in_measures count_measure, so_far 5 3)
count_checked =
    then_is (measured terms 3 (Some (t.I64 2)) (Some (expression terms (selection 1)) ∷ []) [] of_lines None (so_far 5 2)) _ count_measure (so_far 5 3) (Ok (in_measures count_measure, so_far 5 3))
    (measured_is 3 (t.I64 2) count count_call 2 count_named count_called) refl

-- both, in order
abbrev sum_in : Scope → Checking SetMeasure
sum_in = measure_in (Some (aggregate_function terms (quantities 2 (t.I64 1)))) None

abbrev count_in : Scope → Checking SetMeasure
count_in = measure_in (Some (aggregate_function terms (quantities 3 (t.I64 2)))) None

abbrev both_measures : List SetMeasure
both_measures = in_measures sum_measure ∷ in_measures count_measure ∷ []

measures_checked : in_order (sum_in of_lines ∷ count_in of_lines ∷ []) (so_far 5 1) ≡ Ok (both_measures, so_far 5 3)
measures_checked =
    then_is (sum_in of_lines (so_far 5 1)) _ (in_measures sum_measure) (so_far 5 2) (Ok (both_measures, so_far 5 3)) sum_checked
    (then_is (in_order (count_in of_lines ∷ []) (so_far 5 2)) _ (in_measures count_measure ∷ []) (so_far 5 3) (Ok (both_measures, so_far 5 3))
    (then_is (count_in of_lines (so_far 5 2)) _ (in_measures count_measure) (so_far 5 3) (Ok (in_measures count_measure ∷ [], so_far 5 3)) count_checked refl) refl)

-- the lines by the regions of their orders
abbrev measures_of : List (Scope → Checking SetMeasure)
measures_of = checked_measure terms (raw.measure_of 2 (t.I64 1)) ∷ checked_measure terms (raw.measure_of 3 (t.I64 2)) ∷ []

abbrev aggregate_of : List Ty → Sets → List (Scope → Checking SetMeasure) → Result (Rel × Progress) Refusal
aggregate_of columns grouping measures =
    (groups_in (over 1 columns) [] (grouping ∷ []) >>= (λ found. in_order (map (λ one. one (over 1 columns)) measures) >>= (λ checked.
    finished 1 None (aggregate_op typed.ordered_lines found checked) (aggregate_columns found checked)))) (so_far 5 0)

ordered_lines_columns : columns_of typed.ordered_lines ≡ joined_types
ordered_lines_columns = rel_columns 2 (ops.Join typed.lines typed.orders joins.Inner typed.is_of_order None) (0 ∷ 1 ∷ 2 ∷ 3 ∷ []) joined_types

-- the columns of the regions: the group's, and those of the measures
abbrev region_types : Ty → List Ty
region_types region = record { kind = region.kind; nullable = region.nullable || false } ∷ typed.whole_type ∷ typed.count_type ∷ []

regions_finished : finished 1 None (ops.Aggregate typed.ordered_lines (e.Column 3 typed.text_type ∷ []) typed.measures) (region_types (ty_of (e.Column 3 typed.text_type))) (so_far 5 3) ≡ Ok (typed.regions, so_far 5 3)
regions_finished = λ i. finished 1 None (ops.Aggregate typed.ordered_lines (e.Column 3 typed.text_type ∷ []) typed.measures) (region_types (column_type 3 typed.text_type i)) (so_far 5 3)

regions_is : aggregate_of (columns_of typed.ordered_lines) (checked_grouping terms grouping) measures_of ≡ Ok (typed.regions, so_far 5 3)
regions_is =
    (λ i. aggregate_of (ordered_lines_columns i) (grouping_is i) (measure_is 2 (t.I64 1) i ∷ measure_is 3 (t.I64 2) i ∷ []))
    ∙ then_is (in_order (sum_in of_lines ∷ count_in of_lines ∷ []) (so_far 5 1)) _ both_measures (so_far 5 3) (Ok (typed.regions, so_far 5 3)) measures_checked regions_finished

regions_checked : checked_rel terms raw.regions 1 (so_far 2 0) ≡ Ok (typed.regions, so_far 5 3)
regions_checked =
    ap (λ relation. relation 1 (so_far 2 0)) (checked_rel-Aggregate terms None (Some raw.ordered_lines) (grouping ∷ []) (raw.measure_of 2 (t.I64 1) ∷ raw.measure_of 3 (t.I64 2) ∷ []) [])
    ∙ then_is (numbered (checked_rel terms raw.ordered_lines) (so_far 2 0)) _ typed.ordered_lines (so_far 5 0) (Ok (typed.regions, so_far 5 3)) (numbered_is (checked_rel terms raw.ordered_lines) typed.ordered_lines 2 0 5 3 ordered_lines_checked) regions_is

-- the regions from the least on
regions_columns : columns_of typed.regions ≡ typed.result_types
regions_columns = rel_columns 1 (ops.Aggregate typed.ordered_lines (e.Column 3 typed.text_type ∷ []) typed.measures) (0 ∷ 1 ∷ 2 ∷ []) typed.result_types

key_is : checked_sort terms key ≡ sort_key (Some (expression terms (selection 0))) 1
key_is =
    checked_sort-out terms key
    ∙ ap (λ (level : Opened SortField-F). sort_key (option_map (checked_expr terms) level.expr) level.direction) out_key
    ∙ ap (λ one. sort_key (Some one) 1) (column_is 0)

abbrev sort_of : List Ty → (Scope → Checking SortKey) → Result (Rel × Progress) Refusal
sort_of columns key = (in_order (map (λ key. key (over 0 columns)) (key ∷ [])) >>= (λ keys. finished 0 None (ops.Sort typed.regions keys) columns)) (so_far 5 0)

sorted_is : sort_of (columns_of typed.regions) (checked_sort terms key) ≡ Ok (typed.ordered_regions, so_far 5 1)
sorted_is = λ i. sort_of (regions_columns i) (key_is i)

sorted_checked : checked_rel terms raw.ordered_regions 0 (so_far 1 0) ≡ Ok (typed.ordered_regions, so_far 5 1)
sorted_checked =
    ap (λ relation. relation 0 (so_far 1 0)) (checked_rel-Sort terms None (Some raw.regions) (key ∷ []))
    ∙ then_is (numbered (checked_rel terms raw.regions) (so_far 1 0)) _ typed.regions (so_far 5 0) (Ok (typed.ordered_regions, so_far 5 1)) (numbered_is (checked_rel terms raw.regions) typed.regions 1 0 5 3 regions_checked) sorted_is

-- the whole plan, with three columns for three names
ordered_columns : columns_of typed.ordered_regions ≡ typed.result_types
ordered_columns = rel_columns 0 (ops.Sort typed.regions (record { expr = e.Column 0 typed.text_type; descending = false; nulls_first = true } ∷ [])) (0 ∷ 1 ∷ 2 ∷ []) typed.result_types

abbrev checked_plan : Typed
checked_plan = record { rel = typed.ordered_regions; names = raw.result_names }

abbrev plan_of : ℕ → Result (Typed × Progress) Refusal
plan_of count =
    (must 0 (nat_le count MAX_RELATIONS) rules_of.TooMany >> (numbered (checked_rel terms raw.ordered_regions) >>= (λ rel.
    must 0 (length raw.result_names == length (columns_of rel)) rules_of.BadNames >> accept (record { rel = rel; names = raw.result_names })))) start

plan_is : plan_of (relation_count raw.ordered_regions) ≡ Ok (checked_plan, so_far 5 0)
plan_is =
    ap plan_of five_relations
    ∙ then_is (numbered (checked_rel terms raw.ordered_regions) (so_far 0 0)) _ typed.ordered_regions (so_far 5 0) (Ok (checked_plan, so_far 5 0)) (numbered_is (checked_rel terms raw.ordered_regions) typed.ordered_regions 0 0 5 1 sorted_checked)
    (ap (λ (columns : List Ty). (must 0 (length raw.result_names == length columns) rules_of.BadNames >> accept checked_plan) (so_far 5 0)) ordered_columns)

pub accepted : verdict true raw.demo_tree ≡ Ok typed.demo_plan
unfolding raw.demo_tree typed.demo_plan
accepted = ap holed plan_is
