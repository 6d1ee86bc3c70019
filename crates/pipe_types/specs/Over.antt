-- Pipelines whose parts are well typed over the types that the columns of their batches are stored with: what works a batch may ask
-- for no more.
use Rattle.std.specs.Prelude.{◌≡◌, ◌<◌, ℕ, List, [], ◌∷◌, ◌++◌, Option, Some, None, map, length, slice_index_or}
use Rattle.std.specs.List.{AllByRecursion}
use Rattle.sub_types.specs.Kind.{IsKind}
use Rattle.sub_types.specs.declared.kind.Ty.{Ty}
use Rattle.plan_typed.specs.declared.rel.SetOp.{SetOp}
use Rattle.well_typed.specs.ExprTyped.{IsTypedOver, HasOne}
use Rattle.well_typed.specs.WellTyped.{IsConditionOver, MayBe, AreAll, AreBelow, AreInputs, IsMeasureOver, IsSetMeasureOver, set_columns_of}
use Rattle.rel_specs.specs.declared.join.JoinSpec.{JoinSpec}
use Rattle.rel_specs.specs.declared.key_order.KeyOrder.{KeyOrder}
use Rattle.join_columns.specs.Sides.{kinds_of}
use Rattle.plan_pipes.specs.declared.pipe.Breaker.{Breaker}
use Rattle.plan_pipes.specs.declared.pipe.Breaker.TheVariants as breakers
use Rattle.plan_pipes.specs.declared.pipe.Feed.{Feed}
use Rattle.plan_pipes.specs.declared.pipe.Feed.TheVariants as feeds
use Rattle.plan_pipes.specs.declared.pipe.Pipe.{Pipe}
use Rattle.plan_pipes.specs.declared.pipe.Step.{Step}
use Rattle.plan_pipes.specs.declared.pipe.Step.TheVariants as steps
use Rattle.plan_pipes.specs.RowMeaning.{sets_of}
use Rattle.plan_pipes.specs.Run.{Past, run, stream_at, stepped, fed, flow}
use Rattle.pipe_types.specs.Exact.{exact_steps, exact_over}

-- left rows that are stored with these types may be joined with a table of this join: they are of its left kinds, and the rest of its
-- condition is well typed over them beside the right columns
abbrev pub IsProbeOver : Option JoinSpec → List Ty → Type 0
IsProbeOver None given = ⊥
IsProbeOver (Some join) given = (kinds_of given ≡ kinds_of join.left.items) × AllByRecursion (IsConditionOver (given ++ join.right.items)) join.rest.items

-- a step, over the joins that the tables are built for
abbrev pub IsStepOver : List (Option JoinSpec) → List Ty → Step → Type 0
IsStepOver joins given (steps.Read relation names types filter mask) =
    AllByRecursion (λ (ty : Ty). IsKind ty.kind) types × (kinds_of given ≡ kinds_of types) × MayBe (IsConditionOver types) filter × AreBelow (length types) mask
IsStepOver joins given (steps.Filter relation condition) = IsConditionOver given condition
IsStepOver joins given (steps.Project relation exprs) = AllByRecursion (IsTypedOver given) exprs
IsStepOver joins given (steps.Keep columns) = AreBelow (length given) columns
IsStepOver joins given (steps.Probe built) = IsProbeOver (slice_index_or joins built None) given

-- steps in order
abbrev pub AreStepsOver : List (Option JoinSpec) → List Ty → List Step → Type 0
AreStepsOver joins given [] = Unit {0}
AreStepsOver joins given (step ∷ steps) = IsStepOver joins given step × AreStepsOver joins (stepped exact_steps joins step given) steps

-- a breaker
abbrev pub IsBreakerOver : List Ty → Breaker → Type 0
IsBreakerOver given breakers.Gather = Unit {0}
IsBreakerOver given (breakers.Fetch offset count) = Unit {0}
IsBreakerOver given (breakers.Aggregate spec) = AllByRecursion (IsTypedOver given) spec.groups.items × AllByRecursion (IsMeasureOver given) spec.measures.items
IsBreakerOver given (breakers.Sort keys) = AreBelow (length given) (map (λ (key : KeyOrder). key.column) keys)
IsBreakerOver given (breakers.Build join) = AreAll given join.right.items
IsBreakerOver given (breakers.GroupSets spec) =
    AllByRecursion (IsTypedOver given) spec.groups.items × AllByRecursion (AreBelow (length spec.groups.items)) (sets_of spec) × HasOne (sets_of spec)
    × AllByRecursion (IsSetMeasureOver given) spec.measures.items

-- types are as others imply, list by list
abbrev pub AreAllEach : List (List Ty) → List (List Ty) → Type 0
AreAllEach [] [] = Unit {0}
AreAllEach (types ∷ more) (given ∷ rest) = AreAll types given × AreAllEach more rest
AreAllEach _ _ = ⊥

-- the inputs of a set operation, of which there are two at least, are of the kinds of these types: as what they are stored with implies, they give these types
pub record IsSetOver (op : SetOp) (types : List Ty) (inputs : List (List Ty)) : Type 0 where
  pub each : List (List Ty)
  pub as_implied : AreAllEach inputs each
  pub alike : AreInputs each
  pub direct : types ≡ set_columns_of op each
  pub kinds : AllByRecursion (λ (input : List Ty). kinds_of input ≡ kinds_of types) inputs

-- a feed, over the types that earlier pipelines stored
abbrev pub IsFeedOver : (ℕ → List Ty) → List (List Ty) → Feed → Type 0
IsFeedOver columns streams (feeds.Read relation) = Unit {0}
IsFeedOver columns streams (feeds.Pipe at) = at < length streams
IsFeedOver columns streams (feeds.Set op pipes types) =
    AllByRecursion (λ at. at < length streams) pipes × IsSetOver op types (map (stream_at (exact_over columns) streams) pipes)

-- what earlier pipelines stored
abbrev pub stored : (ℕ → List Ty) → List Pipe → Past (List Ty) (Option JoinSpec)
stored columns pipes = run (exact_over columns) pipes

-- a pipeline behind others
pub record IsPipeOver (columns : ℕ → List Ty) (before : List Pipe) (pipe : Pipe) : Type 0 where
  pub feed : IsFeedOver columns (stored columns before).streams pipe.feed
  pub steps : AreStepsOver (stored columns before).tables (fed (exact_over columns) (stored columns before).streams pipe.feed) pipe.steps
  pub breaker : IsBreakerOver (flow (exact_over columns) (stored columns before) pipe.feed pipe.steps) pipe.breaker
