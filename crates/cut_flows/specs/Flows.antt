-- Pipelines without a breaker, and what relations add to them.
use Rattle.std.specs.Prelude.{ℕ, List, [], ◌∷◌, ◌++◌, Option, Some, None, map}
use Rattle.std.specs.List.{range_with_len}
use Rattle.sub_types.specs.declared.kind.Ty.{Ty}
use Rattle.plan_typed.specs.declared.expr.Expr.{Expr}
use Rattle.plan_typed.specs.declared.rel.SetOp.{SetOp}
use Rattle.plan_typed.specs.declared.rel.SortKey.{SortKey}
use Rattle.rel_specs.specs.declared.join.JoinSpec.{JoinSpec}
use Rattle.plan_pipes.specs.declared.pipe.Breaker.{Breaker}
use Rattle.plan_pipes.specs.declared.pipe.Breaker.TheVariants as breakers
use Rattle.plan_pipes.specs.declared.pipe.Feed.{Feed}
use Rattle.plan_pipes.specs.declared.pipe.Feed.TheVariants as feeds
use Rattle.plan_pipes.specs.declared.pipe.Pipe.{Pipe}
use Rattle.plan_pipes.specs.declared.pipe.Step.{Step}
use Rattle.plan_pipes.specs.declared.pipe.Step.TheVariants as steps
use Rattle.rel_parts.specs.Parts.{orders_from}
use Rattle.cut_flows.specs.declared.flow.Flow.{Flow}

abbrev pub flow_from : Feed → Flow
flow_from feed = record { feed = feed; steps = [] }

abbrev pub feed_of : ℕ → Feed
feed_of index = feeds.Pipe index

abbrev pub with_step : Flow → Step → Flow
with_step flow step = record { feed = flow.feed; steps = flow.steps ++ step ∷ [] }

abbrev pub pipe_of : Flow → Breaker → Pipe
pipe_of flow breaker = record { feed = flow.feed; steps = flow.steps; breaker = breaker }

abbrev pub build_of : Flow → JoinSpec → Pipe
build_of flow spec = pipe_of flow (breakers.Build spec)

abbrev pub read_flow : ℕ → List (List ℕ) → List Ty → Option Expr → List ℕ → Flow
read_flow relation names types filter mask = with_step (flow_from (feeds.Read relation)) (steps.Read relation names types filter mask)

abbrev pub set_flow : SetOp → List ℕ → List Ty → Flow
set_flow op pipes types = flow_from (feeds.Set op pipes types)

abbrev pub filter_flow : Flow → ℕ → Expr → Flow
filter_flow flow relation condition = with_step flow (steps.Filter relation condition)

abbrev pub post_flow : Flow → ℕ → Option Expr → Flow
post_flow flow relation None = flow
post_flow flow relation (Some condition) = filter_flow flow relation condition

abbrev pub project_flow : Flow → ℕ → List Expr → Flow
project_flow flow relation exprs = with_step flow (steps.Project relation exprs)

abbrev pub keep_flow : Flow → List ℕ → Flow
keep_flow flow columns = with_step flow (steps.Keep columns)

-- the pipeline that sorts rows of so many columns: the keys' values behind each row, and the order by these columns
abbrev pub sort_of : Flow → ℕ → ℕ → List SortKey → Pipe
sort_of flow relation width keys = pipe_of (project_flow flow relation (map (λ (key : SortKey). key.expr) keys)) (breakers.Sort (orders_from width keys))

-- what follows it: the rows' own columns
abbrev pub sorted_flow : ℕ → ℕ → Flow
sorted_flow index width = keep_flow (flow_from (feeds.Pipe index)) (range_with_len 0 width)
