-- What pipelines give where they run in order, whatever a stream and a table are.
use Rattle.std.specs.Prelude.{ℕ, List, [], ◌∷◌, ◌++◌, Option, map, slice_index_or}
use Rattle.sub_types.specs.declared.kind.Ty.{Ty}
use Rattle.plan_typed.specs.declared.expr.Expr.{Expr}
use Rattle.plan_typed.specs.declared.rel.SetOp.{SetOp}
use Rattle.rel_specs.specs.declared.join.JoinSpec.{JoinSpec}
use Rattle.plan_pipes.specs.declared.pipe.Breaker.{Breaker}
use Rattle.plan_pipes.specs.declared.pipe.Breaker.TheVariants as breakers
use Rattle.plan_pipes.specs.declared.pipe.Feed.{Feed}
use Rattle.plan_pipes.specs.declared.pipe.Feed.TheVariants as feeds
use Rattle.plan_pipes.specs.declared.pipe.Pipe.{Pipe}
use Rattle.plan_pipes.specs.declared.pipe.Step.{Step}
use Rattle.plan_pipes.specs.declared.pipe.Step.TheVariants as steps

-- what each step does to a stream; a probe joins it with a table, of which an index that no pipeline built has none
pub record StepMeaning {ℓ} (D T : Type ℓ) : Type ℓ where
  pub reading : ℕ → List Ty → Option Expr → List ℕ → D → D
  pub filter : ℕ → Expr → D → D
  pub project : ℕ → List Expr → D → D
  pub keep : List ℕ → D → D
  pub probe : T → D → D
  pub no_table : T

-- what feeds, steps and breakers do: a breaker gathers a stream, and a table is built of a join's right input
pub record Meaning {ℓ} (D T : Type ℓ) : Type ℓ where
  pub read : ℕ → D
  pub set : SetOp → List Ty → List D → D
  pub steps : StepMeaning D T
  pub gather : Breaker → D → D
  pub table : JoinSpec → D → T
  pub no_stream : D

-- what ran so far: the stream that each pipeline gathered, and the tables that were built
pub record Past {ℓ} (D T : Type ℓ) : Type ℓ where
  pub streams : List D
  pub tables : List T

abbrev pub nothing_yet {ℓ} : {D T : Type ℓ} → Past D T
nothing_yet = record { streams = []; tables = [] }

-- the stream of an earlier pipeline
abbrev pub stream_at {ℓ} : {D T : Type ℓ} → Meaning D T → List D → ℕ → D
stream_at m streams at = slice_index_or streams at m.no_stream

-- a feed over the streams of earlier pipelines
abbrev pub fed {ℓ} : {D T : Type ℓ} → Meaning D T → List D → Feed → D
fed m streams (feeds.Read relation) = m.read relation
fed m streams (feeds.Pipe at) = stream_at m streams at
fed m streams (feeds.Set op pipes types) = m.set op types (map (stream_at m streams) pipes)

-- one step over the tables of earlier pipelines
abbrev pub stepped {ℓ} : {D T : Type ℓ} → StepMeaning D T → List T → Step → D → D
stepped m tables (steps.Read relation names types filter mask) d = m.reading relation types filter mask d
stepped m tables (steps.Filter relation condition) d = m.filter relation condition d
stepped m tables (steps.Project relation exprs) d = m.project relation exprs d
stepped m tables (steps.Keep columns) d = m.keep columns d
stepped m tables (steps.Probe built) d = m.probe (slice_index_or tables built m.no_table) d

-- steps in order
abbrev pub through {ℓ} : {D T : Type ℓ} → StepMeaning D T → List T → List Step → D → D
through m tables [] d = d
through m tables (step ∷ steps) d = through m tables steps (stepped m tables step d)

-- a feed and then steps, before the breaker
abbrev pub flow {ℓ} : {D T : Type ℓ} → Meaning D T → Past D T → Feed → List Step → D
flow m past feed steps = through m.steps past.tables steps (fed m past.streams feed)

-- the table that a breaker builds of a stream, if it builds one
abbrev pub built {ℓ} : {D T : Type ℓ} → Meaning D T → Breaker → D → List T
built m (breakers.Build spec) d = m.table spec d ∷ []
built m _ d = []

-- one pipeline more
abbrev pub after {ℓ} : {D T : Type ℓ} → Meaning D T → Past D T → Pipe → Past D T
after m past pipe = let d = flow m past pipe.feed pipe.steps in record {
  streams = past.streams ++ m.gather pipe.breaker d ∷ [];
  tables = past.tables ++ built m pipe.breaker d;
}

abbrev pub run_on {ℓ} : {D T : Type ℓ} → Meaning D T → Past D T → List Pipe → Past D T
run_on m past [] = past
run_on m past (pipe ∷ pipes) = run_on m (after m past pipe) pipes

-- all pipelines, in order
unfoldable pub run {ℓ} : {D T : Type ℓ} → Meaning D T → List Pipe → Past D T
run m pipes = run_on m nothing_yet pipes
