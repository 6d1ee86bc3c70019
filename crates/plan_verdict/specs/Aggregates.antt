-- The checks of aggregates (Substrait `AggregateRel`): groupings and measures.
use Rattle.std.specs.Prelude.{ℕ, List, [], ◌∷◌, ◌++◌, Bool, true, Option, Some, None, Result, Ok, Err, ◌&&◌, ◌||◌, not, ◌==◌, map, length, nat_le, nat_lt, is_none, if◌then◌else◌, position}
use Rattle.std.specs.List.{list_all, list_any, range_with_len, enumerate_from}
use Rattle.sub_types.specs.declared.kind.Ty.{Ty}
use Rattle.plan_leaves.specs.declared.common.RelCommon.{RelCommon}
use Rattle.plan_leaves.specs.declared.options.FunctionOption.{FunctionOption}
use Rattle.plan_leaves.specs.declared.types.RawType.{RawType}
use Rattle.plan_raw.specs.declared.aggregate.AggregateFunction.{AggregateFunction-F}
use Rattle.plan_raw.specs.declared.aggregate.Grouping.{Grouping-F}
use Rattle.plan_raw.specs.declared.aggregate.Measure.{Measure-F}
use Rattle.plan_typed.specs.declared.expr.Expr.{Expr}
use Rattle.plan_typed.specs.declared.rel.Op.{Op}
use Rattle.plan_typed.specs.declared.rel.Op.TheVariants as ops
use Rattle.plan_typed.specs.declared.rel.Rel.{Rel}
use Rattle.plan_typed.specs.declared.rel.SetMeasure.{SetMeasure}
use Rattle.plan_typed.specs.declared.rel.TypedMeasure.{TypedMeasure}
use Rattle.plan_typed.specs.Types.{ty_of, columns_of}
pub use Rattle.well_typed.specs.Columns.{MAX_GROUPINGS, has_place, group_type, number_column}
use Rattle.plan_verdict.specs.Same.{same_expr}
use Rattle.func_table.specs.declared.row.Class.TheVariants as classes
use Rattle.plan_verdict.specs.declared.groups.Group.{Group}
use Rattle.plan_verdict.specs.declared.groups.Groups.{Groups}
use Rattle.plan_verdict.specs.declared.rule.Rule.{Rule}
use Rattle.plan_verdict.specs.declared.rule.Rule.TheVariants as rules
use Rattle.plan_verdict.specs.Calls.{named_in, call_in}
use Rattle.plan_verdict.specs.Checking.{Checking, ◌>>=◌, ◌>>◌, accept, part, must, present, relations_so_far, nodes_so_far, nodes_from, in_order}
use Rattle.plan_verdict.specs.Exprs.{Terms, arguments, each_in}
use Rattle.plan_verdict.specs.Meaning.{Scope, Expression, Aggregation, Sets, Checked}
use Rattle.plan_verdict.specs.Relation.{input, finished}
use Rattle.plan_verdict.specs.Rels.{over, maybe_condition}
use Rattle.plan_verdict.specs.Lists.{is_empty}

-- the only argument, if there is one
abbrev pub first_of : List Expr → Option Expr
first_of (first ∷ _) = Some first
first_of [] = None

-- AggregateFunction: the call of a measure with this filter
abbrev pub measured : Terms → ℕ → Option RawType → List (Option Expression) → List FunctionOption → Scope → Option Expr → Checking TypedMeasure
measured terms reference output written options scope kept = do
  named ← part scope.relation (named_in terms.declared classes.Aggregate reference)
  args ← arguments scope written
  call ← part scope.relation (call_in named classes.Aggregate (map ty_of args) output options)
  accept (record { func = call.func; arg = first_of args; filter = kept; ty = call.ty })

-- no sorts, the phase unspecified or from the initial to the result, over all values or distinct ones
abbrev pub is_supported_form : Bool → ℕ → ℕ → Bool
is_supported_form has_sorts phase invocation = not has_sorts && (phase == 0 || phase == 3) && nat_le invocation 2

abbrev pub aggregate_function : Terms → Checked AggregateFunction-F → Aggregation
aggregate_function terms function = record {
  is_supported = is_supported_form (not (is_empty function.sorts)) function.phase function.invocation;
  is_distinct = function.invocation == 2;
  check = measured terms function.function_reference function.output_type function.arguments function.options;
}

-- Measure: the form of its function, its filter, its call, and that there is an argument to be distinct
abbrev pub measure_in : Option Aggregation → Option Expression → Scope → Checking SetMeasure
measure_in written filter scope = do
  function ← present scope.relation written
  must scope.relation function.is_supported rules.UnsupportedForm
  kept ← maybe_condition scope filter
  measure ← function.check scope kept
  must scope.relation (not (function.is_distinct && is_none measure.arg)) rules.BadArguments
  accept (record { measure = measure; distinct = function.is_distinct })

abbrev pub measure : Checked Measure-F → Scope → Checking SetMeasure
measure one = measure_in one.measure one.filter

abbrev pub grouping : Checked Grouping-F → Sets
grouping one = record { expressions = one.grouping_expressions; references = one.expression_references }

-- two grouping expressions are equal; one that holds a subquery equals no other
abbrev pub is_same_group : Group → Group → Bool
is_same_group a b = not a.holds_subquery && not b.holds_subquery && same_expr a.expr b.expr

-- the places are of so many groups, and none stands twice
abbrev pub are_places : ℕ → List ℕ → Bool
are_places count [] = true
are_places count (place ∷ places) = nat_lt place count && not (list_any (λ other. other == place) places) && are_places count places

-- some set has the place
abbrev pub is_referred_to : List (List ℕ) → ℕ → Bool
is_referred_to sets place = list_any (λ set. list_any (λ one. one == place) set) sets

-- sets of places of so many expressions: each place is one of them, once in a set, and each expression is in some set
abbrev pub sets_of_places : ℕ → List (List ℕ) → Result (List (List ℕ)) Rule
sets_of_places count sets =
    if not (list_all (are_places count) sets) then Err rules.BadReference
    else if not (list_all (is_referred_to sets) (range_with_len 0 count)) then Err rules.UnsupportedForm
    else Ok sets

-- groupings that refer to the aggregate's own expressions
abbrev pub referred : Scope → List Expression → List Sets → Checking Groups
referred scope expressions groupings = do
  exprs ← each_in scope expressions
  sets ← part scope.relation (sets_of_places (length exprs) (map (λ (one : Sets). one.references) groupings))
  accept (record { groups = exprs; sets = sets })

-- an equal group's place, and no expression of the new one stands in the plan
abbrev pub found_at : List Group → ℕ → ℕ → Checking (List Group × ℕ)
found_at groups node place = do
  nodes_from node
  accept (groups, place)

-- the groups with one more, and its place
abbrev pub placed : List Group → ℕ → Group → Checking (List Group × ℕ)
placed groups node group = elim (position (is_same_group group) groups) [
  | Some place ↦ found_at groups node place
  | None ↦ accept (groups ++ group ∷ [], length groups)
]

-- the groups with a grouping expression
abbrev pub group_in : Scope → List Group → Expression → Checking (List Group × ℕ)
group_in scope groups written = do
  node ← nodes_so_far
  before ← relations_so_far
  expr ← written.check scope
  after ← relations_so_far
  placed groups node (record { expr = expr; holds_subquery = not (before == after) })

-- the groups with those of a grouping, and their places
abbrev pub set_in : Scope → List Group → List Expression → Checking (List Group × List ℕ)
set_in scope groups [] = accept (groups, [])
set_in scope groups (first ∷ rest) = do
  (more, place) ← group_in scope groups first
  (all, places) ← set_in scope more rest
  accept (all, place ∷ places)

-- the groups of several groupings, equal ones once, and the places of each grouping's
abbrev pub sets_in : Scope → List Group → List Sets → Checking (List Group × List (List ℕ))
sets_in scope groups [] = accept (groups, [])
sets_in scope groups (first ∷ rest) = do
  (more, set) ← set_in scope groups first.expressions
  (all, sets) ← sets_in scope more rest
  accept (all, set ∷ sets)

-- groupings with expressions of their own: those of one stay as they are written
abbrev pub written_out : Scope → List Sets → Checking Groups
written_out scope [] = accept (record { groups = []; sets = [] ∷ [] })
written_out scope (one ∷ []) = do
  exprs ← each_in scope one.expressions
  accept (record { groups = exprs; sets = range_with_len 0 (length exprs) ∷ [] })
written_out scope groupings = do
  (groups, sets) ← sets_in scope [] groupings
  accept (record { groups = map (λ (group : Group). group.expr) groups; sets = sets })

-- the groups and sets: the groupings refer to the aggregate's own expressions, if it has some
abbrev pub groups_in : Scope → List Expression → List Sets → Checking Groups
groups_in scope [] groupings = written_out scope groupings
groups_in scope expressions groupings = referred scope expressions groupings

-- the columns of an aggregate: the groups, the measures, and the number of the set
abbrev pub aggregate_columns : Groups → List SetMeasure → List Ty
aggregate_columns found measures =
    map (group_type found.sets) (enumerate_from 0 found.groups) ++ map (λ (one : SetMeasure). one.measure.ty) measures ++ number_column found.sets

-- an aggregate over one set of all groups, unless there are several sets or a measure is over distinct values
abbrev pub aggregate_op : Rel → Groups → List SetMeasure → Op
aggregate_op rel found measures =
    if nat_le (length found.sets) 1 && not (list_any (λ (one : SetMeasure). one.distinct) measures)
    then ops.Aggregate rel found.groups (map (λ (one : SetMeasure). one.measure) measures)
    else ops.GroupSets rel found.groups found.sets measures

-- the groupings and the measures of an aggregate over this input
abbrev pub aggregate_over : ℕ → Option RelCommon → Rel → List Sets → List (Scope → Checking SetMeasure) → List Expression → Checking Rel
aggregate_over number common rel groupings measures expressions = do
  found ← groups_in (over number (columns_of rel)) expressions groupings
  checked ← in_order (map (λ one. one (over number (columns_of rel))) measures)
  finished number common (aggregate_op rel found checked) (aggregate_columns found checked)

-- AggregateRel
abbrev pub aggregate : ℕ → Option RelCommon → Option (ℕ → Checking Rel) → List Sets → List (Scope → Checking SetMeasure) → List Expression → Checking Rel
aggregate number common written groupings measures expressions = do
  rel ← input number written
  must number (nat_le (length groupings) MAX_GROUPINGS) rules.TooMany
  aggregate_over number common rel groupings measures expressions
