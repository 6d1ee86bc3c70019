-- Worked rows: what small relations give, by computation.
use Rattle.std.proofs.Common.{◌≡◌, ℕ, pos, negsuc, List, [], ◌∷◌, Bool, true, false, Option, Some, None, Ok, Err, refl, slice_index_or, ◌==◌, if◌then◌else◌}
use Rattle.sub_types.specs.declared.fault.FaultKind.{FaultKind}
use Rattle.sub_types.specs.declared.fault.FaultKind.TheVariants as faults
use Rattle.sub_types.specs.declared.kind.Kind.TheVariants as kinds
use Rattle.sub_types.specs.declared.kind.Ty.{Ty}
use Rattle.sub_types.specs.declared.value.Value.{Value}
use Rattle.sub_types.specs.declared.value.Value.TheVariants as values
use Rattle.sub_types.specs.Stream.{Stream, rows_alone}
use Rattle.plan_typed.specs.declared.expr.Func.{Func}
use Rattle.plan_typed.specs.declared.expr.Func.TheVariants as funcs
use Rattle.plan_typed.specs.declared.expr.Overflow.TheVariants as modes
use Rattle.plan_typed.specs.declared.rel.JoinKind.TheVariants as joins
use Rattle.plan_typed.specs.declared.rel.SetOp.TheVariants as ops
use Rattle.plan_denote.specs.Rows.{Row, Formula, truth, ◌>>=◌}
use Rattle.plan_denote.specs.Whole.{quotient}
use Rattle.plan_denote.specs.Filter.{filtered}
use Rattle.plan_denote.specs.Project.{projected, emitted}
use Rattle.plan_denote.specs.Fetch.{fetched}
use Rattle.plan_denote.specs.Read.{read_rows}
use Rattle.plan_denote.specs.Join.{Join, joined, match_of, partners}
use Rattle.plan_denote.specs.Sort.{sorted, sorted_rows}
use Rattle.plan_denote.specs.Aggregate.{Measure, aggregated, summary, rows_of_summary}
use Rattle.plan_denote.specs.GroupSets.{AnyMeasure, grouping_sets, rows_of_sets}
use Rattle.plan_denote.specs.Sets.{set_rows}
use Rattle.plan_denote.specs.Holes.{Worth, Single, Among, Filled, filled_level}
use Rattle.plan_denote.specs.Subqueries.{single}
use Rattle.plan_typed.specs.declared.expr.Expr.{Expr, Expr-F, roll-Expr}
use Rattle.plan_typed.specs.declared.expr.Expr.TheVariants as exprs

abbrev int : ℕ → Value
int n = values.Int (pos n)

-- a letter
abbrev text : ℕ → Value
text letter = values.Bytes (letter ∷ [])

abbrev null : Value
null = values.Null

abbrev column : ℕ → Formula
column index row = Ok (slice_index_or row index null)

-- six by the first column
abbrev sixth : Formula
sixth row = quotient kinds.I64 modes.Error (int 6) (slice_index_or row 0 null)

abbrev fails : ℕ → FaultKind → List Row → Stream Row
fails relation kind rows = record { rows = rows; end = Some (record { relation = relation; kind = kind }) }

-- rows of one column
abbrev ones : List Value → Stream Row
ones [] = rows_alone []
ones (value ∷ rest) = rows_alone ((value ∷ []) ∷ (ones rest).rows)

null_condition_drops : filtered 0 (column 0) (ones (null ∷ values.Bool true ∷ values.Bool false ∷ [])) ≡ ones (values.Bool true ∷ [])
unfolding filtered
null_condition_drops = refl

least_row_fault_wins : projected 0 (column 0 ∷ sixth ∷ []) (ones (int 1 ∷ int 0 ∷ int 2 ∷ [])) ≡ fails 0 faults.DivideByZero ((int 1 ∷ int 1 ∷ int 6 ∷ []) ∷ [])
unfolding projected
least_row_fault_wins = refl

abbrev sixths : Stream Row
sixths = projected 1 (sixth ∷ []) (ones (int 1 ∷ int 2 ∷ int 0 ∷ int 3 ∷ []))

fetch_hides_fault : fetched 0 (Some 2) sixths ≡ rows_alone ((int 1 ∷ int 6 ∷ []) ∷ (int 2 ∷ int 3 ∷ []) ∷ [])
unfolding projected fetched
fetch_hides_fault = refl

fetch_shows_fault : fetched 0 (Some 3) sixths ≡ fails 1 faults.DivideByZero ((int 1 ∷ int 6 ∷ []) ∷ (int 2 ∷ int 3 ∷ []) ∷ [])
unfolding projected fetched
fetch_shows_fault = refl

fetch_from_four : fetched 4 None sixths ≡ fails 1 faults.DivideByZero []
unfolding projected fetched
fetch_from_four = refl

emit_twice : emitted (1 ∷ 0 ∷ 1 ∷ []) (rows_alone ((int 4 ∷ int 5 ∷ []) ∷ [])) ≡ rows_alone ((int 5 ∷ int 4 ∷ int 5 ∷ []) ∷ [])
unfolding emitted
emit_twice = refl

abbrev required : Ty
required = record { kind = kinds.I64; nullable = false }

null_in_required_column : read_rows 2 (required ∷ []) (λ row. truth false) (0 ∷ []) (ones (int 1 ∷ null ∷ int 2 ∷ [])) ≡ fails 2 faults.NullInRequired []
unfolding read_rows
null_in_required_column = refl

-- the rows of the joins: the keys are the first columns
abbrev lefts : Stream Row
lefts = rows_alone ((int 1 ∷ text 97 ∷ []) ∷ (int 1 ∷ text 98 ∷ []) ∷ (null ∷ text 99 ∷ []) ∷ (int 2 ∷ text 100 ∷ []) ∷ [])

abbrev rights : Stream Row
rights = rows_alone ((int 1 ∷ text 120 ∷ []) ∷ (int 1 ∷ text 121 ∷ []) ∷ (null ∷ text 122 ∷ []) ∷ [])

abbrev by_first : Join
by_first = record { number = 0; left_width = 2; right_width = 2; matches = match_of (record { left = 0; right = 0 } ∷ []) [] }

abbrev pair : Row → Row → Row
pair (a ∷ b ∷ []) (c ∷ d ∷ []) = a ∷ b ∷ c ∷ d ∷ []
pair _ _ = []

abbrev a1 : Row
a1 = int 1 ∷ text 97 ∷ []

abbrev b1 : Row
b1 = int 1 ∷ text 98 ∷ []

abbrev c0 : Row
c0 = null ∷ text 99 ∷ []

abbrev d2 : Row
d2 = int 2 ∷ text 100 ∷ []

abbrev x1 : Row
x1 = int 1 ∷ text 120 ∷ []

abbrev y1 : Row
y1 = int 1 ∷ text 121 ∷ []

abbrev z0 : Row
z0 = null ∷ text 122 ∷ []

abbrev none2 : Row
none2 = null ∷ null ∷ []

join_left : joined joins.Left by_first lefts rights ≡ rows_alone (pair a1 x1 ∷ pair a1 y1 ∷ pair b1 x1 ∷ pair b1 y1 ∷ pair c0 none2 ∷ pair d2 none2 ∷ [])
unfolding joined partners match_of
join_left = refl

join_full : joined joins.Outer by_first lefts rights ≡ rows_alone (pair a1 x1 ∷ pair a1 y1 ∷ pair b1 x1 ∷ pair b1 y1 ∷ pair c0 none2 ∷ pair d2 none2 ∷ pair none2 z0 ∷ [])
unfolding joined partners match_of
join_full = refl

join_right : joined joins.Right by_first lefts rights ≡ rows_alone (pair a1 x1 ∷ pair a1 y1 ∷ pair b1 x1 ∷ pair b1 y1 ∷ pair none2 z0 ∷ [])
unfolding joined partners match_of
join_right = refl

join_left_over_none : joined joins.Left by_first lefts (rows_alone []) ≡ rows_alone (pair a1 none2 ∷ pair b1 none2 ∷ pair c0 none2 ∷ pair d2 none2 ∷ [])
unfolding joined partners match_of
join_left_over_none = refl

join_semi : joined joins.LeftSemi by_first lefts rights ≡ rows_alone (a1 ∷ b1 ∷ [])
unfolding joined partners match_of
join_semi = refl

join_anti : joined joins.LeftAnti by_first lefts rights ≡ rows_alone (c0 ∷ d2 ∷ [])
unfolding joined partners match_of
join_anti = refl

-- true, but for a right row of 0, where six by it is a fault
abbrev by_sixth : Join
by_sixth = record { number = 3; left_width = 1; right_width = 1; matches = match_of [] ((λ row. quotient kinds.I64 modes.Error (int 6) (slice_index_or row 1 null) >>= (λ v. truth true)) ∷ []) }

-- the pair before the fault is given
pair_before_fault : joined joins.Left by_sixth (ones (int 7 ∷ [])) (ones (int 1 ∷ int 0 ∷ [])) ≡ fails 3 faults.DivideByZero ((int 7 ∷ int 1 ∷ []) ∷ [])
unfolding joined partners match_of
pair_before_fault = refl

-- a fault behind the first match doesn't count
fault_behind_match : joined joins.LeftSemi by_sixth (ones (int 7 ∷ [])) (ones (int 1 ∷ int 0 ∷ [])) ≡ ones (int 7 ∷ [])
unfolding joined partners match_of
fault_behind_match = refl

faulty_right_side : joined joins.Left by_first lefts (fails 5 faults.Overflow (x1 ∷ [])) ≡ fails 5 faults.Overflow []
unfolding joined partners match_of
faulty_right_side = refl

abbrev sum_of : Func → Measure
sum_of func = record { func = func; arg = Some (column 0); filter = None; kind = kinds.I64 }

abbrev total : Stream Row → Stream Row
total = aggregated 4 [] (sum_of funcs.Sum ∷ sum_of funcs.Count ∷ [])

sum_of_more : total (ones (int 9223372036854775807 ∷ int 1 ∷ values.Int (negsuc 0) ∷ [])) ≡ rows_alone ((int 9223372036854775807 ∷ int 3 ∷ []) ∷ [])
unfolding aggregated summary rows_of_summary
sum_of_more = refl

sum_over_the_limit : total (ones (int 9223372036854775807 ∷ int 1 ∷ [])) ≡ fails 4 faults.Overflow []
unfolding aggregated summary rows_of_summary
sum_over_the_limit = refl

sum_of_nulls : total (ones (null ∷ null ∷ [])) ≡ rows_alone ((null ∷ int 0 ∷ []) ∷ [])
unfolding aggregated summary rows_of_summary
sum_of_nulls = refl

sum_of_no_rows : total (rows_alone []) ≡ rows_alone ((null ∷ int 0 ∷ []) ∷ [])
unfolding aggregated summary rows_of_summary
sum_of_no_rows = refl

no_groups_of_no_rows : aggregated 4 (column 0 ∷ []) (sum_of funcs.Sum ∷ []) (rows_alone []) ≡ rows_alone []
unfolding aggregated summary rows_of_summary
no_groups_of_no_rows = refl

abbrev average : Measure
average = record { func = funcs.Avg; arg = Some (column 0); filter = None; kind = kinds.Decimal 38 2 }

average_truncates : aggregated 4 [] (average ∷ []) (ones (values.Dec (pos 100) ∷ values.Dec (pos 200) ∷ values.Dec (pos 200) ∷ [])) ≡ ones (values.Dec (pos 166) ∷ [])
unfolding aggregated summary rows_of_summary
average_truncates = refl

average_of_negatives : aggregated 4 [] (average ∷ []) (ones (values.Dec (negsuc 99) ∷ values.Dec (negsuc 199) ∷ values.Dec (negsuc 199) ∷ [])) ≡ ones (values.Dec (negsuc 165) ∷ [])
unfolding aggregated summary rows_of_summary
average_of_negatives = refl

-- least and greatest by group, null a group of its own, groups in order of first appearance
least_and_greatest : aggregated 4 (column 1 ∷ []) (sum_of funcs.Min ∷ sum_of funcs.Max ∷ [])
    (rows_alone ((int 5 ∷ null ∷ []) ∷ (int 3 ∷ int 1 ∷ []) ∷ (int 2 ∷ null ∷ []) ∷ (null ∷ int 1 ∷ []) ∷ []))
    ≡ rows_alone ((null ∷ int 2 ∷ int 5 ∷ []) ∷ (int 1 ∷ int 3 ∷ int 3 ∷ []) ∷ [])
unfolding aggregated summary rows_of_summary
least_and_greatest = refl

abbrev over_second : Func → Bool → AnyMeasure
over_second func distinct = record { measure = record { func = func; arg = Some (column 1); filter = None; kind = kinds.I64 }; distinct = distinct }

abbrev two_sets : Stream Row → Stream Row
two_sets = grouping_sets 0 (column 0 ∷ []) ((0 ∷ []) ∷ [] ∷ []) (over_second funcs.Sum false ∷ over_second funcs.Count true ∷ [])

sets_of_three_rows : two_sets (rows_alone ((text 97 ∷ int 1 ∷ []) ∷ (text 97 ∷ int 1 ∷ []) ∷ (text 98 ∷ int 2 ∷ []) ∷ []))
    ≡ rows_alone ((text 97 ∷ int 2 ∷ int 1 ∷ int 0 ∷ []) ∷ (text 98 ∷ int 2 ∷ int 1 ∷ int 0 ∷ []) ∷ (null ∷ int 4 ∷ int 2 ∷ int 1 ∷ []) ∷ [])
unfolding grouping_sets rows_of_sets
sets_of_three_rows = refl

sets_of_no_rows : two_sets (rows_alone []) ≡ rows_alone ((null ∷ null ∷ int 0 ∷ int 1 ∷ []) ∷ [])
unfolding grouping_sets rows_of_sets
sets_of_no_rows = refl

abbrev primary : Stream Row
primary = ones (int 1 ∷ int 1 ∷ null ∷ null ∷ int 2 ∷ int 3 ∷ [])

abbrev second : Stream Row
second = ones (int 1 ∷ null ∷ null ∷ int 4 ∷ [])

minus_primary : set_rows ops.MinusPrimary (primary ∷ second ∷ []) ≡ ones (int 2 ∷ int 3 ∷ [])
unfolding set_rows
minus_primary = refl

minus_primary_all : set_rows ops.MinusPrimaryAll (primary ∷ second ∷ []) ≡ ones (int 1 ∷ int 2 ∷ int 3 ∷ [])
unfolding set_rows
minus_primary_all = refl

intersection_primary : set_rows ops.IntersectionPrimary (primary ∷ second ∷ []) ≡ ones (int 1 ∷ null ∷ [])
unfolding set_rows
intersection_primary = refl

intersection_multiset_all : set_rows ops.IntersectionMultisetAll (primary ∷ second ∷ []) ≡ ones (int 1 ∷ null ∷ null ∷ [])
unfolding set_rows
intersection_multiset_all = refl

union_distinct : set_rows ops.UnionDistinct (primary ∷ second ∷ []) ≡ ones (int 1 ∷ null ∷ int 2 ∷ int 3 ∷ int 4 ∷ [])
unfolding set_rows
union_distinct = refl

union_all_ends_at_a_fault : set_rows ops.UnionAll (ones (int 1 ∷ []) ∷ fails 2 faults.Overflow ((int 2 ∷ []) ∷ []) ∷ ones (int 3 ∷ []) ∷ []) ≡ fails 2 faults.Overflow ((int 1 ∷ []) ∷ (int 2 ∷ []) ∷ [])
unfolding set_rows
union_all_ends_at_a_fault = refl

first_faulty_input : set_rows ops.MinusPrimary (ones (int 1 ∷ []) ∷ fails 2 faults.Overflow [] ∷ fails 3 faults.BadCast [] ∷ []) ≡ fails 2 faults.Overflow []
unfolding set_rows
first_faulty_input = refl

abbrev to_sort : Stream Row
to_sort = rows_alone ((int 2 ∷ text 97 ∷ []) ∷ (null ∷ text 98 ∷ []) ∷ (int 1 ∷ text 99 ∷ []) ∷ (int 2 ∷ text 100 ∷ []) ∷ (null ∷ text 101 ∷ []) ∷ [])

abbrev second_of : Stream Row → Stream Row
second_of = emitted (1 ∷ [])

abbrev letters : List ℕ → Stream Row
letters [] = rows_alone []
letters (letter ∷ rest) = rows_alone ((text letter ∷ []) ∷ (letters rest).rows)

ascending_nulls_first : second_of (sorted 0 (column 0 ∷ []) (record { descending = false; nulls_first = true } ∷ []) to_sort) ≡ letters (98 ∷ 101 ∷ 99 ∷ 97 ∷ 100 ∷ [])
unfolding sorted sorted_rows emitted
ascending_nulls_first = refl

descending_nulls_last : second_of (sorted 0 (column 0 ∷ []) (record { descending = true; nulls_first = false } ∷ []) to_sort) ≡ letters (97 ∷ 100 ∷ 99 ∷ 98 ∷ 101 ∷ [])
unfolding sorted sorted_rows emitted
descending_nulls_last = refl

-- the value of the node of number 2 goes there: nodes are numbered before what is inside them, from left to right
abbrev third : ℕ → Option Worth
third n = if n == 2 then Some (Single (int 7)) else None

abbrev i64 : Ty
i64 = record { kind = kinds.I64; nullable = true }

abbrev constant : Value → Filled
constant value = filled_level third (Expr-F.Const value i64)

abbrev pair_of : Value → Value → Filled
pair_of a b = filled_level third (Expr-F.Call funcs.Add modes.Error (constant a ∷ constant b ∷ []) i64)

abbrev made_pair : Value → Value → Expr
made_pair a b = roll-Expr (Expr-F.Call funcs.Add modes.Error (roll-Expr (Expr-F.Const a i64) ∷ roll-Expr (Expr-F.Const b i64) ∷ []) i64)

filled_in_second : (pair_of null null).at 0 ≡ made_pair null (int 7)
filled_in_second = refl

filled_in_first : (pair_of null null).at 1 ≡ made_pair (int 7) null
filled_in_first = refl

-- the options of a list stand in place of none
filled_options : (filled_level (λ n. Some (Among i64 (int 2 ∷ null ∷ []))) (Expr-F.OneOf (filled_level third (Expr-F.Column 0 i64)) [] i64)).at 0
    ≡ roll-Expr (Expr-F.OneOf (roll-Expr (Expr-F.Column 0 i64)) (exprs.Const (int 2) i64 ∷ exprs.Const null i64 ∷ []) i64)
filled_options = refl

scalar_of_no_rows : single 2 [] ≡ Ok (Single null)
scalar_of_no_rows = refl

scalar_of_two_rows : single 2 ((int 1 ∷ []) ∷ (int 2 ∷ []) ∷ []) ≡ Err (record { relation = 2; kind = faults.ManyRows })
scalar_of_two_rows = refl
