-- What pipelines store, beside the types that their streams have: step by step, and pipeline by pipeline.
use Rattle.std.proofs.Common.{◌≡◌, ◌∙◌, ℕ, zero, suc, ◌+◌, ◌<◌, List, [], ◌∷◌, ◌++◌, Option, Some, None, IsTrue, map, length, slice_index_or, refl, sym, ap, ap₂, subst, arith}
use Rattle.std.specs.List.{AllByRecursion, enumerate_from}
use Rattle.std.proofs.lemmas.Bool.{and_parts}
use Rattle.sub_types.specs.declared.kind.Ty.{Ty}
use Rattle.func_table.proofs.KindLaws.{equal_kinds}
use Rattle.func_table.specs.Kinds.{is_equal}
use Rattle.plan_typed.specs.declared.rel.SetOp.{SetOp}
use Rattle.plan_typed.specs.Types.{ty_of}
use Rattle.well_typed.proofs.MadeRel.{all_same, all_length, all_at, all_append}
use Rattle.well_typed.specs.Columns.{columns_at, join_columns, are_of_kinds, is_nullable_in, is_nullable_at}
use Rattle.well_typed.specs.WellTyped.{IsConditionOver, AreAll, AreBelow, AreInputs, set_columns_of}
use Rattle.rel_specs.specs.declared.join.JoinSpec.{JoinSpec}
use Rattle.rel_specs.specs.declared.key_order.KeyOrder.{KeyOrder}
use Rattle.join_columns.specs.Sides.{kinds_of}
use Rattle.plan_pipes.specs.declared.pipe.Breaker.{Breaker}
use Rattle.plan_pipes.specs.declared.pipe.Breaker.TheVariants as breakers
use Rattle.plan_pipes.specs.declared.pipe.Feed.{Feed}
use Rattle.plan_pipes.specs.declared.pipe.Feed.TheVariants as feeds
use Rattle.plan_pipes.specs.declared.pipe.Pipe.{Pipe}
use Rattle.plan_pipes.specs.declared.pipe.Step.{Step}
use Rattle.plan_pipes.specs.declared.pipe.Step.TheVariants as steps
use Rattle.plan_pipes.specs.Run.{Meaning, Past, nothing_yet, stream_at, fed, stepped, through, flow, built, after, run_on, run}
use Rattle.plan_pipes.specs.TypeMeaning.{Typing, JoinTyping, IsProbe, HaveTypes, gathered, type_steps, types_over, AreTypedPipes}
use Rattle.cut_laws.proofs.TypeLaws.{each_typed}
use Rattle.pipe_types.specs.Exact.{probed_types, gathered_types, exact_steps, exact_over}
use Rattle.pipe_types.specs.Over.{IsProbeOver, IsStepOver, AreStepsOver, IsBreakerOver, AreAllEach, IsFeedOver, IsPipeOver, stored}
use Rattle.pipe_types.proofs.ImpliedLaws.{all_next, all_kinds, all_joined, exprs_implied, condition_implied, conditions_implied, measures_implied, set_measures_implied}

-- the types that a stream has are as those that are stored imply
abbrev pub Implies : Typing → List Ty → Type 0
Implies typing types = (given : List Ty) → typing given → AreAll types given

-- a table is of this join
abbrev IsTableOf : JoinTyping → Option JoinSpec → Type 0
IsTableOf table None = (left given : List Ty) → table left given → ⊥
IsTableOf table (Some join) = (left given : List Ty) → table left given → (left ≡ join.left.items) × (given ≡ join_columns join.kind join.left.items join.right.items) × AllByRecursion (IsConditionOver (join.left.items ++ join.right.items)) join.rest.items

-- each of them, in order
abbrev EachImplies : List Typing → List (List Ty) → Type 0
EachImplies [] [] = Unit {0}
EachImplies (typing ∷ typings) (types ∷ others) = Implies typing types × EachImplies typings others
EachImplies _ _ = ⊥

abbrev AreTablesOf : List JoinTyping → List (Option JoinSpec) → Type 0
AreTablesOf [] [] = Unit {0}
AreTablesOf (table ∷ tables) (join ∷ joins) = IsTableOf table join × AreTablesOf tables joins
AreTablesOf _ _ = ⊥

implies_more : (typings more : List Typing) (types others : List (List Ty)) → EachImplies typings types → EachImplies more others → EachImplies (typings ++ more) (types ++ others)
implies_more [] more [] others each rest = rest
implies_more [] more (x ∷ types) others each rest = absurd each
implies_more (typing ∷ typings) more [] others each rest = absurd each
implies_more (typing ∷ typings) more (x ∷ types) others each rest = (each.0, implies_more typings more types others each.1 rest)

tables_more : (tables more : List JoinTyping) (joins others : List (Option JoinSpec)) → AreTablesOf tables joins → AreTablesOf more others → AreTablesOf (tables ++ more) (joins ++ others)
tables_more [] more [] others each rest = rest
tables_more [] more (join ∷ joins) others each rest = absurd each
tables_more (table ∷ tables) more [] others each rest = absurd each
tables_more (table ∷ tables) more (join ∷ joins) others each rest = (each.0, tables_more tables more joins others each.1 rest)

-- at a place; behind the last there is no stream and no table
abbrev no_typing : Typing
no_typing given = ⊥

abbrev no_join : JoinTyping
no_join left given = ⊥

implies_at : (typings : List Typing) (types : List (List Ty)) → EachImplies typings types → (at : ℕ) → Implies (slice_index_or typings at no_typing) (slice_index_or types at [])
implies_at [] [] each at given is = absurd is
implies_at [] (x ∷ types) each at given is = absurd each
implies_at (typing ∷ typings) [] each at given is = absurd each
implies_at (typing ∷ typings) (x ∷ types) each zero given is = each.0 given is
implies_at (typing ∷ typings) (x ∷ types) each (suc at) given is = implies_at typings types each.1 at given is

below_at : (typings : List Typing) (types : List (List Ty)) → EachImplies typings types → (at : ℕ) (given : List Ty) → slice_index_or typings at no_typing given → at < length types
below_at [] [] each at given is = absurd is
below_at [] (x ∷ types) each at given is = absurd each
below_at (typing ∷ typings) [] each at given is = absurd each
below_at (typing ∷ typings) (x ∷ types) each zero given is = omega arith
below_at (typing ∷ typings) (x ∷ types) each (suc at) given is = omega (arith, below_at typings types each.1 at given is)

table_at : (tables : List JoinTyping) (joins : List (Option JoinSpec)) → AreTablesOf tables joins → (at : ℕ) → IsTableOf (slice_index_or tables at no_join) (slice_index_or joins at None)
table_at [] [] each at = λ left given is. is
table_at [] (join ∷ joins) each at = absurd each
table_at (table ∷ tables) [] each at = absurd each
table_at (table ∷ tables) (join ∷ joins) each zero = each.0
table_at (table ∷ tables) (join ∷ joins) each (suc at) = table_at tables joins each.1 at

-- a probe
probe_implied : (table : JoinTyping) (join : Option JoinSpec) → IsTableOf table join → (typing : Typing) (types : List Ty) → Implies typing types → Implies (IsProbe table typing) (probed_types join types)
probe_implied table None of typing types implies given is = absurd (of is.types given is.join)
probe_implied table (Some join) of typing types implies given is =
    let known = of is.types given is.join in
    let left = subst (AreAll types) known.0 (implies is.types is.input) in
    subst (AreAll (join_columns join.kind types join.right.items)) (sym known.1) (all_joined join.kind types join.left.items join.right.items left)

probe_over : (table : JoinTyping) (join : Option JoinSpec) → IsTableOf table join → (typing : Typing) (types : List Ty) → Implies typing types → (given : List Ty) → IsProbe table typing given → IsProbeOver join types
probe_over table None of typing types implies given is = of is.types given is.join
probe_over table (Some join) of typing types implies given is =
    let known = of is.types given is.join in
    let right = join.right.items in
    let left = subst (AreAll types) known.0 (implies is.types is.input) in
    (all_kinds types join.left.items left, conditions_implied (types ++ right) (join.left.items ++ right) (all_append types join.left.items right right left (all_same right)) join.rest.items known.2)

-- as many columns, so the places are of these too
below_implied : (types given : List Ty) (places : List ℕ) → AreAll types given → AreBelow (length given) places → AreBelow (length types) places
below_implied types given places all below = subst (λ (count : ℕ). AreBelow count places) (sym (all_length types given all)) below

-- what a typed step took
step_input : (tables : List JoinTyping) (step : Step) (typing : Typing) (given : List Ty) → stepped type_steps tables step typing given → (types : List Ty) × typing types
step_input tables (steps.Read relation names types filter mask) typing given is = (types, is.input)
step_input tables (steps.Filter relation condition) typing given is = (given, is.input)
step_input tables (steps.Project relation exprs) typing given is = (is.types, is.input)
step_input tables (steps.Keep columns) typing given is = (is.types, is.input)
step_input tables (steps.Probe built) typing given is = (is.types, is.input)

-- and what typed steps took
steps_input : (tables : List JoinTyping) (steps : List Step) (typing : Typing) (given : List Ty) → through type_steps tables steps typing given → (types : List Ty) × typing types
steps_input tables [] typing given is = (given, is)
steps_input tables (step ∷ steps) typing given is =
    let next = steps_input tables steps (stepped type_steps tables step typing) given is in
    step_input tables step typing next.0 next.1

module _ (tables : List JoinTyping) (joins : List (Option JoinSpec)) (tables_of : AreTablesOf tables joins) where
  step_implied : (step : Step) (typing : Typing) (types : List Ty) → Implies typing types → Implies (stepped type_steps tables step typing) (stepped exact_steps joins step types)
  step_implied (steps.Read relation names columns filter mask) typing types implies given is = subst (AreAll (columns_at columns mask)) (sym is.is) (all_same (columns_at columns mask))
  step_implied (steps.Filter relation condition) typing types implies given is = implies given is.input
  step_implied (steps.Project relation exprs) typing types implies given is =
      subst (AreAll (types ++ map ty_of exprs)) (sym is.is) (all_append types is.types (map ty_of exprs) (map ty_of exprs) (implies is.types is.input) (all_same (map ty_of exprs)))
  step_implied (steps.Keep columns) typing types implies given is =
      all_next (columns_at types columns) (columns_at is.types columns) given (all_at types is.types columns (implies is.types is.input)) is.as_implied
  step_implied (steps.Probe at) typing types implies given is =
      probe_implied (slice_index_or tables at no_join) (slice_index_or joins at None) (table_at tables joins tables_of at) typing types implies given is

  step_over : (step : Step) (typing : Typing) (types : List Ty) → Implies typing types → (given : List Ty) → stepped type_steps tables step typing given → IsStepOver joins types step
  step_over (steps.Read relation names columns filter mask) typing types implies given is = (is.kinds, all_kinds types columns (implies columns is.input), is.condition, is.places)
  step_over (steps.Filter relation condition) typing types implies given is = condition_implied types given (implies given is.input) condition is.test
  step_over (steps.Project relation exprs) typing types implies given is = exprs_implied types is.types (implies is.types is.input) exprs is.typed
  step_over (steps.Keep columns) typing types implies given is = below_implied types is.types columns (implies is.types is.input) is.places
  step_over (steps.Probe at) typing types implies given is =
      probe_over (slice_index_or tables at no_join) (slice_index_or joins at None) (table_at tables joins tables_of at) typing types implies given is

  through_implied : (steps : List Step) (typing : Typing) (types : List Ty) → Implies typing types → Implies (through type_steps tables steps typing) (through exact_steps joins steps types)
  through_implied [] typing types implies = implies
  through_implied (step ∷ steps) typing types implies =
      through_implied steps (stepped type_steps tables step typing) (stepped exact_steps joins step types) (step_implied step typing types implies)

  steps_over : (steps : List Step) (typing : Typing) (types : List Ty) → Implies typing types → (given : List Ty) → through type_steps tables steps typing given → AreStepsOver joins types steps
  steps_over [] typing types implies given is = tt
  steps_over (step ∷ steps) typing types implies given is =
      let next = steps_input tables steps (stepped type_steps tables step typing) given is in (
        step_over step typing types implies next.0 next.1,
        steps_over steps (stepped type_steps tables step typing) (stepped exact_steps joins step types) (step_implied step typing types implies) given is,
      )

-- breakers
breaker_input : (breaker : Breaker) (typing : Typing) (given : List Ty) → gathered breaker typing given → (types : List Ty) × typing types
breaker_input breakers.Gather typing given is = (given, is)
breaker_input (breakers.Fetch offset count) typing given is = (given, is)
breaker_input (breakers.Aggregate spec) typing given is = (is.types, is.input)
breaker_input (breakers.Sort keys) typing given is = (given, is.input)
breaker_input (breakers.Build spec) typing given is = (given, is.0)
breaker_input (breakers.GroupSets spec) typing given is = (is.types, is.input)

gathered_implied : (breaker : Breaker) (typing : Typing) (types : List Ty) → Implies typing types → Implies (gathered breaker typing) (gathered_types breaker types)
gathered_implied breakers.Gather typing types implies given is = implies given is
gathered_implied (breakers.Fetch offset count) typing types implies given is = implies given is
gathered_implied (breakers.Aggregate spec) typing types implies given is = subst (AreAll (gathered_types (breakers.Aggregate spec) types)) (sym is.is) (all_same (gathered_types (breakers.Aggregate spec) types))
gathered_implied (breakers.Sort keys) typing types implies given is = implies given is.input
gathered_implied (breakers.Build spec) typing types implies given is = implies given is.0
gathered_implied (breakers.GroupSets spec) typing types implies given is = subst (AreAll (gathered_types (breakers.GroupSets spec) types)) (sym is.is) (all_same (gathered_types (breakers.GroupSets spec) types))

breaker_over : (breaker : Breaker) (typing : Typing) (types : List Ty) → Implies typing types → (given : List Ty) → gathered breaker typing given → IsBreakerOver types breaker
breaker_over breakers.Gather typing types implies given is = tt
breaker_over (breakers.Fetch offset count) typing types implies given is = tt
breaker_over (breakers.Aggregate spec) typing types implies given is =
    let all = implies is.types is.input in
    (exprs_implied types is.types all spec.groups.items is.groups, measures_implied types is.types all spec.measures.items is.measures)
breaker_over (breakers.Sort keys) typing types implies given is = below_implied types given (map (λ (key : KeyOrder). key.column) keys) (implies given is.input) is.places
breaker_over (breakers.Build spec) typing types implies given is = subst (AreAll types) is.1 (implies given is.0)
breaker_over (breakers.GroupSets spec) typing types implies given is =
    let all = implies is.types is.input in
    (exprs_implied types is.types all spec.groups.items is.groups, is.sets, is.has_one, set_measures_implied types is.types all spec.measures.items is.measures)

-- the inputs of a set operation are of its kinds
kinds_alike : (first other : List Ty) → IsTrue (are_of_kinds first other) → kinds_of other ≡ kinds_of first
kinds_alike [] [] is = refl
kinds_alike [] (b ∷ other) is = absurd (cc)
kinds_alike (a ∷ first) [] is = absurd (cc)
kinds_alike (a ∷ first) (b ∷ other) is =
    let both = and_parts (is_equal a.kind b.kind) (are_of_kinds first other) is in
    ap₂ (λ kind kinds. kind ∷ kinds) (sym (equal_kinds a.kind b.kind both.0)) (kinds_alike first other both.1)

set_kinds : (op : SetOp) (others : List (List Ty)) (start : ℕ) (first : List Ty)
    → kinds_of (map (λ (numbered : ℕ × Ty). record numbered.1 { nullable = is_nullable_in op numbered.1.nullable (map (is_nullable_at numbered.0) others) }) (enumerate_from start first)) ≡ kinds_of first
set_kinds op others start [] = refl
set_kinds op others start (ty ∷ first) = ap (λ kinds. ty.kind ∷ kinds) (set_kinds op others (start + 1) first)

others_alike : (first types : List Ty) (others : List (List Ty)) → kinds_of first ≡ kinds_of types → AllByRecursion (λ other. IsTrue (are_of_kinds first other)) others → AllByRecursion (λ (other : List Ty). kinds_of other ≡ kinds_of types) others
others_alike first types [] same all = tt
others_alike first types (other ∷ others) same all = (kinds_alike first other all.0 ∙ same, others_alike first types others same all.1)

inputs_alike : (op : SetOp) (types : List Ty) (each : List (List Ty)) → AreInputs each → types ≡ set_columns_of op each → AllByRecursion (λ (input : List Ty). kinds_of input ≡ kinds_of types) each
inputs_alike op types [] alike direct = absurd alike
inputs_alike op types (first ∷ []) alike direct = absurd alike
inputs_alike op types (first ∷ second ∷ others) alike direct =
    let same : kinds_of first ≡ kinds_of types = sym (ap kinds_of direct ∙ set_kinds op (second ∷ others) 0 first) in
    (same, others_alike first types (second ∷ others) same alike)

stored_alike : (types : List Ty) (inputs each : List (List Ty)) → AreAllEach inputs each → AllByRecursion (λ (input : List Ty). kinds_of input ≡ kinds_of types) each → AllByRecursion (λ (input : List Ty). kinds_of input ≡ kinds_of types) inputs
stored_alike types [] [] implied all = tt
stored_alike types [] (y ∷ each) implied all = absurd implied
stored_alike types (x ∷ inputs) [] implied all = absurd implied
stored_alike types (x ∷ inputs) (y ∷ each) implied all = (all_kinds x y implied.0 ∙ all.0, stored_alike types inputs each implied.1 all.1)

module _ (columns : ℕ → List Ty) where
  abbrev typed : Meaning Typing JoinTyping
  typed = types_over columns

  abbrev exact : Meaning (List Ty) (Option JoinSpec)
  exact = exact_over columns

  module _ (typings : List Typing) (streams : List (List Ty)) (each : EachImplies typings streams) where
    inputs_implied : (pipes : List ℕ) (given : List (List Ty)) → HaveTypes (map (stream_at typed typings) pipes) given → AreAllEach (map (stream_at exact streams) pipes) given
    inputs_implied [] [] have = tt
    inputs_implied [] (y ∷ given) have = absurd have
    inputs_implied (at ∷ pipes) [] have = absurd have
    inputs_implied (at ∷ pipes) (y ∷ given) have = (implies_at typings streams each at y have.0, inputs_implied pipes given have.1)

    inputs_below : (pipes : List ℕ) (given : List (List Ty)) → HaveTypes (map (stream_at typed typings) pipes) given → AllByRecursion (λ at. at < length streams) pipes
    inputs_below [] given have = tt
    inputs_below (at ∷ pipes) [] have = absurd have
    inputs_below (at ∷ pipes) (y ∷ given) have = (below_at typings streams each at y have.0, inputs_below pipes given have.1)

    fed_implied : (feed : Feed) → Implies (fed typed typings feed) (fed exact streams feed)
    fed_implied (feeds.Read relation) given is = subst (AreAll (columns relation)) (sym is) (all_same (columns relation))
    fed_implied (feeds.Pipe at) given is = implies_at typings streams each at given is
    fed_implied (feeds.Set op pipes types) given is = subst (AreAll types) (sym is.is) (all_same types)

    feed_over : (feed : Feed) (given : List Ty) → fed typed typings feed given → IsFeedOver columns streams feed
    feed_over (feeds.Read relation) given is = tt
    feed_over (feeds.Pipe at) given is = below_at typings streams each at given is
    feed_over (feeds.Set op pipes types) given is =
        let implied = inputs_implied pipes is.each is.have in (
          inputs_below pipes is.each is.have,
          record {
            each = is.each;
            as_implied = implied;
            alike = is.alike;
            direct = is.direct;
            kinds = stored_alike types (map (stream_at exact streams) pipes) is.each implied (inputs_alike op types is.each is.alike is.direct);
          },
        )

  built_of : (breaker : Breaker) (typing : Typing) (types : List Ty) → AreTablesOf (built typed breaker typing) (built exact breaker types)
  built_of breakers.Gather typing types = tt
  built_of (breakers.Fetch offset count) typing types = tt
  built_of (breakers.Aggregate spec) typing types = tt
  built_of (breakers.Sort keys) typing types = tt
  built_of (breakers.Build spec) typing types = (λ left given is. (is.left_rows, is.is, is.rest), tt)
  built_of (breakers.GroupSets spec) typing types = tt

  -- what ran so far
  abbrev IsStored : Past Typing JoinTyping → Past (List Ty) (Option JoinSpec) → Type 0
  IsStored past kept = EachImplies past.streams kept.streams × AreTablesOf past.tables kept.tables

  flow_implied : (past : Past Typing JoinTyping) (kept : Past (List Ty) (Option JoinSpec)) → IsStored past kept → (pipe : Pipe) → Implies (flow typed past pipe.feed pipe.steps) (flow exact kept pipe.feed pipe.steps)
  flow_implied past kept are pipe =
      through_implied past.tables kept.tables are.1 pipe.steps (fed typed past.streams pipe.feed) (fed exact kept.streams pipe.feed) (fed_implied past.streams kept.streams are.0 pipe.feed)

  after_stored : (past : Past Typing JoinTyping) (kept : Past (List Ty) (Option JoinSpec)) → IsStored past kept → (pipe : Pipe) → IsStored (after typed past pipe) (after exact kept pipe)
  after_stored past kept are pipe =
      let typing = flow typed past pipe.feed pipe.steps in
      let types = flow exact kept pipe.feed pipe.steps in (
        implies_more past.streams (gathered pipe.breaker typing ∷ []) kept.streams (gathered_types pipe.breaker types ∷ []) are.0 (gathered_implied pipe.breaker typing types (flow_implied past kept are pipe), tt),
        tables_more past.tables (built typed pipe.breaker typing) kept.tables (built exact pipe.breaker types) are.1 (built_of pipe.breaker typing types),
      )

  run_on_stored : (pipes : List Pipe) (past : Past Typing JoinTyping) (kept : Past (List Ty) (Option JoinSpec)) → IsStored past kept → IsStored (run_on typed past pipes) (run_on exact kept pipes)
  run_on_stored [] past kept are = are
  run_on_stored (pipe ∷ pipes) past kept are = run_on_stored pipes (after typed past pipe) (after exact kept pipe) (after_stored past kept are pipe)

  run_stored : (pipes : List Pipe) → IsStored (run typed pipes) (stored columns pipes)
  unfolding run
  run_stored pipes = run_on_stored pipes nothing_yet nothing_yet (tt, tt)

  -- the types of a stream
  pub stream_implied : (pipes : List Pipe) (at : ℕ) (types : List Ty) → stream_at typed (run typed pipes).streams at types → AreAll (stream_at exact (stored columns pipes).streams at) types
  stream_implied pipes at types is = implies_at (run typed pipes).streams (stored columns pipes).streams (run_stored pipes).0 at types is

  -- a pipeline behind others
  pub pipe_over : (before more : List Pipe) (pipe : Pipe) → AreTypedPipes columns (before ++ pipe ∷ more) → IsPipeOver columns before pipe
  pipe_over before more pipe all =
      let past = run typed before in
      let kept = stored columns before in
      let are = run_stored before in
      let found = each_typed columns before more pipe all in
      let last = breaker_input pipe.breaker (flow typed past pipe.feed pipe.steps) found.0 found.1 in
      let first = steps_input past.tables pipe.steps (fed typed past.streams pipe.feed) last.0 last.1 in
      record {
        feed = feed_over past.streams kept.streams are.0 pipe.feed first.0 first.1;
        steps = steps_over past.tables kept.tables are.1 pipe.steps (fed typed past.streams pipe.feed) (fed exact kept.streams pipe.feed) (fed_implied past.streams kept.streams are.0 pipe.feed) last.0 last.1;
        breaker = breaker_over pipe.breaker (flow typed past pipe.feed pipe.steps) (flow exact kept pipe.feed pipe.steps) (flow_implied past kept are pipe) found.0 found.1;
      }
