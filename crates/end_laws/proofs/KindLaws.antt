-- What pipelines store is of valid kinds: step by step, and pipeline by pipeline.
use Rattle.std.proofs.Common.{◌≡◌, ℕ, zero, suc, ◌+◌, List, [], ◌∷◌, ◌++◌, Option, Some, None, map, length, slice_index_or, sym, subst, append_assoc}
use Rattle.std.proofs.lemmas.List.{append-nil}
use Rattle.std.specs.Prelude.{slice_get, nat_le, Bool, true, false, cond}
use Rattle.std.specs.List.{AllByRecursion, cons_option, enumerate_from}
use Rattle.std.specs.Option.{option_to_list}
use Rattle.sub_types.specs.Kind.{IsKind}
use Rattle.sub_types.specs.declared.kind.Ty.{Ty}
use Rattle.plan_typed.specs.declared.expr.Expr.{Expr}
use Rattle.plan_typed.specs.declared.rel.SetMeasure.{SetMeasure}
use Rattle.plan_typed.specs.declared.rel.TypedMeasure.{TypedMeasure}
use Rattle.plan_typed.specs.Types.{ty_of}
use Rattle.well_typed.specs.Columns.{columns_at, group_type, number_column}
use Rattle.well_typed.specs.ExprTyped.{IsTypedOver}
use Rattle.well_typed.specs.Types.{kind_of}
use Rattle.well_typed.specs.WellTyped.{MayBe, AreAll, AreInputs, IsMeasureOver, IsSetMeasureOver}
use Rattle.well_typed.proofs.ValidColumns.{append_valid, join_valid}
use Rattle.well_typed.proofs.ValidKinds.{kind_at, call_valid, given_valid, typed_kind}
use Rattle.rel_specs.specs.declared.join.JoinSpec.{JoinSpec}
use Rattle.join_columns.specs.Sides.{kinds_of}
use Rattle.plan_pipes.specs.declared.pipe.Breaker.{Breaker}
use Rattle.plan_pipes.specs.declared.pipe.Breaker.TheVariants as breakers
use Rattle.plan_pipes.specs.declared.pipe.Feed.{Feed}
use Rattle.plan_pipes.specs.declared.pipe.Feed.TheVariants as feeds
use Rattle.plan_pipes.specs.declared.pipe.Pipe.{Pipe}
use Rattle.plan_pipes.specs.declared.pipe.Step.{Step}
use Rattle.plan_pipes.specs.declared.pipe.Step.TheVariants as steps
use Rattle.plan_pipes.specs.RowMeaning.{sets_of}
use Rattle.plan_pipes.specs.Run.{Past, stream_at, fed, stepped, through, flow, built, after, run}
use Rattle.plan_pipes.specs.TypeMeaning.{AreTypedPipes}
use Rattle.plan_pipes.proofs.RunLaws.{run-last}
use Rattle.pipe_types.specs.Exact.{probed_types, gathered_types, exact_steps, exact_over}
use Rattle.pipe_types.specs.Over.{IsStepOver, AreStepsOver, IsBreakerOver, AreAllEach, IsFeedOver, stored}
use Rattle.pipe_types.proofs.StoredLaws.{pipe_over}
use Rattle.end_laws.specs.Stored.{AreKinds, HasRightKinds, StoresKinds}

-- columns at places
with_valid : (found : Option Ty) (rest : List Ty) → MayBe (λ (ty : Ty). IsKind ty.kind) found → AreKinds rest → AreKinds (cons_option found rest)
with_valid None rest one all = all
with_valid (Some ty) rest one all = (one, all)

at_valid : (columns : List Ty) (places : List ℕ) → AreKinds columns → AreKinds (columns_at columns places)
at_valid columns [] all = tt
at_valid columns (place ∷ places) all = with_valid (slice_get columns place) (columns_at columns places) (kind_at columns place all) (at_valid columns places all)

-- types as others imply, and types of the same kinds
given_kinds : (implied given : List Ty) → AreAll implied given → AreKinds implied → AreKinds given
given_kinds [] [] all kinds = tt
given_kinds [] (y ∷ ys) all kinds = absurd all
given_kinds (x ∷ xs) [] all kinds = absurd all
given_kinds (x ∷ xs) (y ∷ ys) all kinds = (subst IsKind (sym all.0.kind) kinds.0, given_kinds xs ys all.1 kinds.1)

to_kinds : (types : List Ty) → AreKinds types → AllByRecursion IsKind (kinds_of types)
to_kinds [] all = tt
to_kinds (ty ∷ types) all = (all.0, to_kinds types all.1)

of_kinds : (types : List Ty) → AllByRecursion IsKind (kinds_of types) → AreKinds types
of_kinds [] all = tt
of_kinds (ty ∷ types) all = (all.0, of_kinds types all.1)

same_kinds : (types others : List Ty) → kinds_of types ≡ kinds_of others → AreKinds types → AreKinds others
same_kinds types others same all = of_kinds others (subst (AllByRecursion IsKind) same (to_kinds types all))

-- expressions and measures
types_valid : (columns : List Ty) (exprs : List Expr) → AreKinds columns → AllByRecursion (IsTypedOver columns) exprs → AreKinds (map ty_of exprs)
types_valid columns [] valid all = tt
types_valid columns (expr ∷ exprs) valid all = (typed_kind columns valid expr all.0, types_valid columns exprs valid all.1)

groups_valid : (columns : List Ty) (sets : List (List ℕ)) (place : ℕ) (exprs : List Expr) → AreKinds columns → AllByRecursion (IsTypedOver columns) exprs → AreKinds (map (group_type sets) (enumerate_from place exprs))
groups_valid columns sets place [] valid all = tt
groups_valid columns sets place (expr ∷ exprs) valid all = (typed_kind columns valid expr all.0, groups_valid columns sets (place + 1) exprs valid all.1)

arg_valid : (columns : List Ty) (arg : Option Expr) → AreKinds columns → MayBe (IsTypedOver columns) arg → AllByRecursion (λ e. IsKind (kind_of e)) (option_to_list arg)
arg_valid columns None valid one = tt
arg_valid columns (Some expr) valid one = (typed_kind columns valid expr one, tt)

measure_valid : (columns : List Ty) (measure : TypedMeasure) → AreKinds columns → IsMeasureOver columns measure → IsKind measure.ty.kind
measure_valid columns measure valid is =
    call_valid is.entry.row (map (λ (ty : Ty). ty.kind) (map ty_of (option_to_list measure.arg))) measure.ty.kind (given_valid (option_to_list measure.arg) (arg_valid columns measure.arg valid is.arg)) is.call.result

measures_valid : (columns : List Ty) (measures : List TypedMeasure) → AreKinds columns → AllByRecursion (IsMeasureOver columns) measures → AreKinds (map (λ (one : TypedMeasure). one.ty) measures)
measures_valid columns [] valid all = tt
measures_valid columns (one ∷ measures) valid all = (measure_valid columns one valid all.0, measures_valid columns measures valid all.1)

set_measures_valid : (columns : List Ty) (measures : List SetMeasure) → AreKinds columns → AllByRecursion (IsSetMeasureOver columns) measures → AreKinds (map (λ (one : SetMeasure). one.measure.ty) measures)
set_measures_valid columns [] valid all = tt
set_measures_valid columns (one ∷ measures) valid all = (measure_valid columns one.measure valid all.0.measure, set_measures_valid columns measures valid all.1)

number_valid : (sets : List (List ℕ)) → AreKinds (number_column sets)
number_valid sets = number_where (nat_le (length sets) 1)
  where
    number_where : (test : Bool) → AreKinds (cond test [] (number_column ([] ∷ [] ∷ [])))
    number_where true = tt
    number_where false = (tt, tt)

-- earlier streams and tables
stream_valid : (streams : List (List Ty)) → AllByRecursion AreKinds streams → (at : ℕ) → AreKinds (slice_index_or streams at [])
stream_valid [] all at = tt
stream_valid (types ∷ streams) all zero = all.0
stream_valid (types ∷ streams) all (suc at) = stream_valid streams all.1 at

table_valid : (joins : List (Option JoinSpec)) → AllByRecursion HasRightKinds joins → (at : ℕ) → HasRightKinds (slice_index_or joins at None)
table_valid [] all at = tt
table_valid (join ∷ joins) all zero = all.0
table_valid (join ∷ joins) all (suc at) = table_valid joins all.1 at

append_all : {A : Type 0} (P : A → Type 0) (xs ys : List A) → AllByRecursion P xs → AllByRecursion P ys → AllByRecursion P (xs ++ ys)
append_all P [] ys all others = others
append_all P (x ∷ xs) ys all others = (all.0, append_all P xs ys all.1 others)

-- the columns of a set operation are of the kinds of its first input
set_valid : (types : List Ty) (inputs each : List (List Ty)) → AreAllEach inputs each → AreInputs each → AllByRecursion (λ (input : List Ty). kinds_of input ≡ kinds_of types) inputs → AllByRecursion AreKinds inputs → AreKinds types
set_valid types [] [] implied alike same all = absurd alike
set_valid types [] (y ∷ each) implied alike same all = absurd implied
set_valid types (input ∷ inputs) each implied alike same all = same_kinds input types same.0 all.0

-- steps
module _ (joins : List (Option JoinSpec)) (rights : AllByRecursion HasRightKinds joins) where
  probe_valid : (join : Option JoinSpec) (given : List Ty) → HasRightKinds join → AreKinds given → AreKinds (probed_types join given)
  probe_valid None given right all = all
  probe_valid (Some join) given right all = join_valid join.kind given join.right.items all right

  step_valid : (step : Step) (given : List Ty) → IsStepOver joins given step → AreKinds given → AreKinds (stepped exact_steps joins step given)
  step_valid (steps.Read relation names types filter mask) given over all = at_valid types mask over.0
  step_valid (steps.Filter relation condition) given over all = all
  step_valid (steps.Project relation exprs) given over all = append_valid given (map ty_of exprs) all (types_valid given exprs all over)
  step_valid (steps.Keep columns) given over all = at_valid given columns all
  step_valid (steps.Probe at) given over all = probe_valid (slice_index_or joins at None) given (table_valid joins rights at) all

  pub through_valid : (steps : List Step) (given : List Ty) → AreStepsOver joins given steps → AreKinds given → AreKinds (through exact_steps joins steps given)
  through_valid [] given over all = all
  through_valid (step ∷ steps) given over all = through_valid steps (stepped exact_steps joins step given) over.1 (step_valid step given over.0 all)

-- a breaker
pub breaker_valid : (breaker : Breaker) (given : List Ty) → IsBreakerOver given breaker → AreKinds given → AreKinds (gathered_types breaker given)
breaker_valid breakers.Gather given over all = all
breaker_valid (breakers.Fetch offset count) given over all = all
breaker_valid (breakers.Aggregate spec) given over all =
    append_valid (map ty_of spec.groups.items) (map (λ (one : TypedMeasure). one.ty) spec.measures.items) (types_valid given spec.groups.items all over.0) (measures_valid given spec.measures.items all over.1)
breaker_valid (breakers.Sort keys) given over all = all
breaker_valid (breakers.Build join) given over all = all
breaker_valid (breakers.GroupSets spec) given over all =
    let columns = map (group_type (sets_of spec)) (enumerate_from 0 spec.groups.items) in
    let types = map (λ (one : SetMeasure). one.measure.ty) spec.measures.items in
    append_valid (columns ++ types) (number_column (sets_of spec))
    (append_valid columns types (groups_valid given (sets_of spec) 0 spec.groups.items all over.0) (set_measures_valid given spec.measures.items all over.3)) (number_valid (sets_of spec))

module _ (columns : ℕ → List Ty) (valid : (number : ℕ) → AreKinds (columns number)) where
  built_valid : (breaker : Breaker) (given : List Ty) → IsBreakerOver given breaker → AreKinds given → AllByRecursion HasRightKinds (built (exact_over columns) breaker given)
  built_valid breakers.Gather given over all = tt
  built_valid (breakers.Fetch offset count) given over all = tt
  built_valid (breakers.Aggregate spec) given over all = tt
  built_valid (breakers.Sort keys) given over all = tt
  built_valid (breakers.Build join) given over all = (given_kinds given join.right.items over all, tt)
  built_valid (breakers.GroupSets spec) given over all = tt

  inputs_valid : (streams : List (List Ty)) → AllByRecursion AreKinds streams → (pipes : List ℕ) → AllByRecursion AreKinds (map (stream_at (exact_over columns) streams) pipes)
  inputs_valid streams all [] = tt
  inputs_valid streams all (at ∷ pipes) = (stream_valid streams all at, inputs_valid streams all pipes)

  -- what feeds a pipeline
  pub fed_valid : (streams : List (List Ty)) → AllByRecursion AreKinds streams → (feed : Feed) → IsFeedOver columns streams feed → AreKinds (fed (exact_over columns) streams feed)
  fed_valid streams all (feeds.Read relation) over = valid relation
  fed_valid streams all (feeds.Pipe at) over = stream_valid streams all at
  fed_valid streams all (feeds.Set op pipes types) over =
      set_valid types (map (stream_at (exact_over columns) streams) pipes) over.1.each over.1.as_implied over.1.alike over.1.kinds (inputs_valid streams all pipes)

  module _ (past : Past (List Ty) (Option JoinSpec)) (pipe : Pipe) (kept : StoresKinds past) (feed : IsFeedOver columns past.streams pipe.feed) (over : AreStepsOver past.tables (fed (exact_over columns) past.streams pipe.feed) pipe.steps) where
    -- behind its steps
    pub flow_valid : AreKinds (flow (exact_over columns) past pipe.feed pipe.steps)
    flow_valid = through_valid past.tables kept.1 pipe.steps (fed (exact_over columns) past.streams pipe.feed) over (fed_valid past.streams kept.0 pipe.feed feed)

    -- one pipeline more
    pub after_valid : IsBreakerOver (flow (exact_over columns) past pipe.feed pipe.steps) pipe.breaker → StoresKinds (after (exact_over columns) past pipe)
    after_valid breaker =
        let given = flow (exact_over columns) past pipe.feed pipe.steps in (
          append_all AreKinds past.streams (gathered_types pipe.breaker given ∷ []) kept.0 (breaker_valid pipe.breaker given breaker flow_valid, tt),
          append_all HasRightKinds past.tables (built (exact_over columns) pipe.breaker given) kept.1 (built_valid pipe.breaker given breaker flow_valid),
        )

  -- pipelines in order
  next_valid : (done : List Pipe) (pipe : Pipe) (more : List Pipe) → AreTypedPipes columns (done ++ pipe ∷ more) → StoresKinds (stored columns done) → StoresKinds (stored columns (done ++ pipe ∷ []))
  next_valid done pipe more typed kept =
      let over = pipe_over columns done more pipe typed in
      subst StoresKinds (sym (run-last (exact_over columns) done pipe)) (after_valid (stored columns done) pipe kept over.feed over.steps over.breaker)

  grown_valid : (done todo rest : List Pipe) → AreTypedPipes columns (done ++ (todo ++ rest)) → StoresKinds (stored columns done) → StoresKinds (stored columns (done ++ todo))
  grown_valid done [] rest typed kept = subst (λ (all : List Pipe). StoresKinds (stored columns all)) (sym (append-nil done)) kept
  grown_valid done (pipe ∷ todo) rest typed kept =
      subst (λ (all : List Pipe). StoresKinds (stored columns all)) (append_assoc done (pipe ∷ []) todo)
      (grown_valid (done ++ pipe ∷ []) todo rest (subst (AreTypedPipes columns) (sym (append_assoc done (pipe ∷ []) (todo ++ rest))) typed) (next_valid done pipe (todo ++ rest) typed kept))

  none_stored : StoresKinds (stored columns [])
  unfolding run
  none_stored = (tt, tt)

  pub before_valid : (before more : List Pipe) → AreTypedPipes columns (before ++ more) → StoresKinds (stored columns before)
  before_valid before more typed = grown_valid [] before more typed none_stored

  -- each of well-typed pipelines
  pub each_fed : (before more : List Pipe) (pipe : Pipe) → AreTypedPipes columns (before ++ pipe ∷ more) → AreKinds (fed (exact_over columns) (stored columns before).streams pipe.feed)
  each_fed before more pipe typed =
      fed_valid (stored columns before).streams (before_valid before (pipe ∷ more) typed).0 pipe.feed (pipe_over columns before more pipe typed).feed

  pub each_through : (before more : List Pipe) (pipe : Pipe) → AreTypedPipes columns (before ++ pipe ∷ more) → AreKinds (flow (exact_over columns) (stored columns before) pipe.feed pipe.steps)
  each_through before more pipe typed =
      let over = pipe_over columns before more pipe typed in
      flow_valid (stored columns before) pipe (before_valid before (pipe ∷ more) typed) over.feed over.steps

  pub each_gathered : (before more : List Pipe) (pipe : Pipe) → AreTypedPipes columns (before ++ pipe ∷ more) → AreKinds (gathered_types pipe.breaker (flow (exact_over columns) (stored columns before) pipe.feed pipe.steps))
  each_gathered before more pipe typed =
      breaker_valid pipe.breaker (flow (exact_over columns) (stored columns before) pipe.feed pipe.steps) (pipe_over columns before more pipe typed).breaker (each_through before more pipe typed)
