-- The checks of aggregates number their nodes.
use Rattle.std.proofs.Common.{◌≡◌, ◌∙◌, ◌≤◌, ℕ, List, [], ◌∷◌, ◌++◌, Bool, true, false, cond, Option, map, refl, sym, ap, subst, arith}
use Rattle.std.specs.Prelude.{length, ◌&&◌, ◌||◌, not, is_none, nat_le}
use Rattle.std.specs.List.{AllByRecursion, Contains, list_all, list_any, flat_map}
use Rattle.std.proofs.lemmas.List.{append-nil, append_assoc}
use Rattle.std.proofs.lemmas.List.Elements.{All-contains}
use Rattle.std.proofs.lemmas.List.Folds.{flat_map-map}
use Rattle.std.proofs.lemmas.List.Sums.{AllPass-from_list_all}
use Rattle.sub_types.specs.declared.kind.Kind.{Kind}
use Rattle.sub_types.specs.declared.kind.Ty.{Ty}
use Rattle.plan_leaves.specs.declared.common.RelCommon.{RelCommon}
use Rattle.plan_leaves.specs.declared.options.FunctionOption.{FunctionOption}
use Rattle.plan_leaves.specs.declared.types.RawType.{RawType}
use Rattle.plan_typed.specs.declared.expr.Expr.{Expr}
use Rattle.plan_typed.specs.declared.rel.Op.TheOpen.{Op-F}
use Rattle.plan_typed.specs.declared.rel.Op.TheVariants as ops
use Rattle.plan_typed.specs.declared.rel.Rel.{Rel}
use Rattle.plan_typed.specs.declared.rel.SetMeasure.{SetMeasure}
use Rattle.plan_typed.specs.declared.rel.TypedMeasure.{TypedMeasure}
use Rattle.plan_typed.specs.Types.{ty_of, columns_of}
use Rattle.func_table.specs.declared.row.Class.TheVariants.{Aggregate}
use Rattle.func_table.specs.Entry.{Entry, Arguments, Each, AnyNumber, OneOrMore, is_class, takes_kind, takes_kinds}
use Rattle.func_table.specs.Table.{table}
use Rattle.well_typed.specs.Columns.{MAX_GROUPINGS}
use Rattle.well_typed.specs.WellTyped.{MayBe}
use Rattle.denote_typed.specs.Holes.{Slot, slots_of, slots_of_all, slots_of_maybe, slots_of_measure}
use Rattle.plan_verdict.specs.declared.call.Call.{Call}
use Rattle.plan_verdict.specs.declared.groups.Groups.{Groups}
use Rattle.plan_verdict.specs.declared.rule.Rule.TheVariants as rules
use Rattle.plan_verdict.specs.Aggregates.{first_of, measured, measure_in, aggregate, aggregate_columns}
use Rattle.plan_verdict.specs.Calls.{named_in, call_in}
use Rattle.plan_verdict.specs.Checking.{Checking}
use Rattle.plan_verdict.specs.Exprs.{Terms}
use Rattle.plan_verdict.specs.Meaning.{Scope, Expression, Aggregation, Sets}
use Rattle.plan_verdict.specs.Relation.{finished}
use Rattle.plan_verdict.specs.Rels.{over}
use Rattle.plan_verdict.proofs.CallLaws.{call_found, IsCalled}
use Rattle.plan_verdict.proofs.RelLaws.{anything_given}
use Rattle.plan_verdict.proofs.Sound.{length_mapped}
use Rattle.verdict_awaits.proofs.ExprLaws.{IsWaitingExpr, arguments_wait}
use Rattle.verdict_awaits.proofs.GroupLaws.{AreWaitingSets, groups_wait}
use Rattle.verdict_awaits.proofs.Levels.{part_of}
use Rattle.verdict_awaits.proofs.NumberLaws.{HasNumber, IsWaitingRel, input_waits}
use Rattle.verdict_awaits.proofs.Parts.{Part, nothing, with_slots, same_part}
use Rattle.verdict_awaits.proofs.RelLaws.{finished_waits, maybe_waits, holding}
use Rattle.verdict_awaits.proofs.Waits.{Waits, Grows, none, Any, then, and_then, accepted, parted, tested, found, each_grows}

-- an entry of an aggregate function takes one argument at most
abbrev takes_one : Arguments → Bool
takes_one (Each []) = true
takes_one (Each (name ∷ [])) = true
takes_one _ = false

abbrev is_short : Entry → Bool
is_short entry = not (is_class entry.class Aggregate) || takes_one entry.arguments

all_short : list_all is_short table ≡ true
unfolding table
all_short = refl

short_at : (entry : Entry) → Contains table entry → is_short entry ≡ true
short_at entry listed = All-contains (λ one. is_short one ≡ true) table entry (AllPass-from_list_all is_short table all_short) listed

one_where : (aggregate takes : Bool) → aggregate ≡ true → (not aggregate || takes) ≡ true → takes ≡ true
one_where true takes e test = test
one_where false takes e test = absurd cc

one_at_most : (arguments : Arguments) (given : List Kind) → takes_one arguments ≡ true → takes_kinds arguments given ≡ true → length given ≤ 1
one_at_most (Each []) [] one takes = omega arith
one_at_most (Each []) (kind ∷ given) one takes = absurd cc
one_at_most (Each (name ∷ [])) [] one takes = omega arith
one_at_most (Each (name ∷ [])) (kind ∷ []) one takes = omega arith
one_at_most (Each (name ∷ [])) (kind ∷ other ∷ given) one takes = absurd (no (takes_kind name kind) takes)
  where
    no : (test : Bool) → (test && false) ≡ true → ⊥
    no true e = cc
    no false e = cc
one_at_most (Each (name ∷ other ∷ names)) given one takes = absurd cc
one_at_most (AnyNumber name) given one takes = absurd cc
one_at_most (OneOrMore name) given one takes = absurd cc

-- a call of an aggregate function has one argument at most
few_arguments : (args : List Expr) (call : Call) → IsCalled Aggregate (map ty_of args) call → length args ≤ 1
few_arguments args call called =
    let takes = called.1.takes in
    let types = map ty_of args in
    let one = one_where (is_class called.0.class Aggregate) (takes_one called.0.arguments) takes.of_class (short_at called.0 takes.listed) in
    omega (arith, one_at_most called.0.arguments (map (λ (ty : Ty). ty.kind) types) one takes.kinds, length_mapped (λ (ty : Ty). ty.kind) types, length_mapped ty_of args)

-- so that its nodes are those of its only argument
only_slots : (args : List Expr) → length args ≤ 1 → slots_of_maybe (first_of args) ≡ flat_map slots_of args
only_slots [] few = refl
only_slots (first ∷ []) few = sym (append-nil (slots_of first))
only_slots (first ∷ second ∷ rest) few = absurd (omega (arith, few))

-- the check of an aggregate function over a filter that is checked numbers the rest of a measure's nodes
abbrev pub IsWaitingFunction : Aggregation → Type 0
IsWaitingFunction function = (scope : Scope) (kept : Option Expr) (start : Part) → Waits scope.relation none Any (λ measure. with_slots start (slots_of_measure measure)) (with_slots start (slots_of_maybe kept)) (function.check scope kept)

abbrev pub slots_of_one : SetMeasure → List Slot
slots_of_one one = slots_of_measure one.measure

abbrev pub IsWaitingMeasure : (Scope → Checking SetMeasure) → Type 0
IsWaitingMeasure one = (scope : Scope) → Grows scope.relation Any slots_of_one (one scope)

pub measured_waits : (terms : Terms) (reference : ℕ) (output : Option RawType) (written : List (Option Expression)) (options : List FunctionOption) → AllByRecursion (MayBe IsWaitingExpr) written
    → (scope : Scope) (kept : Option Expr) (start : Part) → Waits scope.relation none Any (λ measure. with_slots start (slots_of_measure measure)) (with_slots start (slots_of_maybe kept)) (measured terms reference output written options scope kept)
measured_waits terms reference output written options all scope kept start =
    let filtered = with_slots start (slots_of_maybe kept) in
    then (parted scope.relation Any scope.relation (named_in terms.declared Aggregate reference) (anything_given (named_in terms.declared Aggregate reference)) filtered) (λ named _.
    then (arguments_wait scope written all filtered) (λ args _.
    let now = with_slots filtered (flat_map slots_of args) in
    then (parted scope.relation (IsCalled Aggregate (map ty_of args)) scope.relation (call_in named Aggregate (map ty_of args) output options) (call_found named Aggregate (map ty_of args) output options) now) (λ call called.
    let measure : TypedMeasure = record { func = call.func; arg = first_of args; filter = kept; ty = call.ty } in
    accepted scope.relation none Any (λ measure. with_slots start (slots_of_measure measure)) now measure tt
    (same_part (with_slots start (slots_of_measure measure)) now
    (ap (λ l. start.slots ++ (slots_of_maybe kept ++ l)) (only_slots args (few_arguments args call called)) ∙ sym (append_assoc start.slots (slots_of_maybe kept) (flat_map slots_of args))) refl))))

pub measure_waits : (written : Option Aggregation) (filter : Option Expression) → MayBe IsWaitingFunction written → MayBe IsWaitingExpr filter → IsWaitingMeasure (measure_in written filter)
measure_waits written filter s ok scope start =
    then (found scope.relation IsWaitingFunction scope.relation written s start) (λ function waits.
    and_then (tested scope.relation scope.relation function.is_supported rules.UnsupportedForm start) (λ _ _.
    then (maybe_waits scope filter ok start) (λ kept _.
    then (waits scope kept start) (λ measure _.
    let now = with_slots start (slots_of_measure measure) in
    and_then (tested scope.relation scope.relation (not (function.is_distinct && is_none measure.arg)) rules.BadArguments now) (λ _ _.
    accepted scope.relation none Any (λ one. with_slots start (slots_of_one one)) now (record { measure = measure; distinct = function.is_distinct }) tt refl)))))

module _ (number : ℕ) (common : Option RelCommon) where
  abbrev nodes_now : Rel → Groups → List SetMeasure → Part
  nodes_now rel found measures = holding (slots_of_all found.groups ++ flat_map slots_of_one measures) (rel ∷ [])

  -- the aggregate over one set of all groups, or over several sets
  op_waits : (rel : Rel) (found : Groups) (measures : List SetMeasure) (plain : Bool)
      → Waits number none (HasNumber number) part_of (nodes_now rel found measures)
      (finished number common (cond plain (ops.Aggregate rel found.groups (map (λ (one : SetMeasure). one.measure) measures)) (ops.GroupSets rel found.groups found.sets measures)) (aggregate_columns found measures))
  op_waits rel found measures true =
      let only = map (λ (one : SetMeasure). one.measure) measures in
      subst (λ slots. Waits number none (HasNumber number) part_of (holding (slots_of_all found.groups ++ slots) (rel ∷ [])) (finished number common (ops.Aggregate rel found.groups only) (aggregate_columns found measures)))
      (flat_map-map slots_of_measure (λ (one : SetMeasure). one.measure) measures)
      (finished_waits number common (ops.Aggregate rel found.groups only) (aggregate_columns found measures) (Op-F.Aggregate rel found.groups only) (ops.rolls-Aggregate rel found.groups only))
  op_waits rel found measures false =
      finished_waits number common (ops.GroupSets rel found.groups found.sets measures) (aggregate_columns found measures) (Op-F.GroupSets rel found.groups found.sets measures) (ops.rolls-GroupSets rel found.groups found.sets measures)

  pub aggregate_waits : (written : Option (ℕ → Checking Rel)) (groupings : List Sets) (measures : List (Scope → Checking SetMeasure)) (expressions : List Expression) → MayBe IsWaitingRel written → AllByRecursion AreWaitingSets groupings
      → AllByRecursion IsWaitingMeasure measures → AllByRecursion IsWaitingExpr expressions → Waits number none (HasNumber number) part_of nothing (aggregate number common written groupings measures expressions)
  aggregate_waits written groupings measures expressions s sets all ok =
      then (input_waits number nothing written s) (λ rel _.
      let scope = over number (columns_of rel) in
      and_then (tested number number (nat_le (length groupings) MAX_GROUPINGS) rules.TooMany (holding [] (rel ∷ []))) (λ _ _.
      then (groups_wait scope (holding [] (rel ∷ [])) expressions groupings ok sets) (λ found _.
      then (each_grows number Any slots_of_one IsWaitingMeasure (λ one. one scope) measures all (λ one q. q scope) (holding (slots_of_all found.groups) (rel ∷ []))) (λ checked _.
      op_waits rel found checked (nat_le (length found.sets) 1 && not (list_any (λ (one : SetMeasure). one.distinct) checked))))))
