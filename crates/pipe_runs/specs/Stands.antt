-- What stands in memory after so many pipelines.
use Rattle.std.specs.Prelude.{◌≡◌, ℕ, List, [], ◌∷◌, Bool, true, false, Option}
use Rattle.sub_types.specs.declared.kind.Ty.{Ty}
use Rattle.sub_types.specs.Stream.{Stream}
use Rattle.rel_specs.specs.declared.join.JoinSpec.{JoinSpec}
use Rattle.plan_denote.specs.Denote.{Tables}
use Rattle.plan_denote.specs.Rows.{Row}
use Rattle.plan_pipes.specs.declared.pipe.Breaker.{Breaker}
use Rattle.plan_pipes.specs.declared.pipe.Breaker.TheVariants as breakers
use Rattle.plan_pipes.specs.declared.pipe.Feed.{Feed}
use Rattle.plan_pipes.specs.declared.pipe.Pipe.{Pipe}
use Rattle.plan_pipes.specs.declared.pipe.Step.{Step}
use Rattle.plan_pipes.specs.Run.{Past, nothing_yet, after, fed, flow, run_on}
use Rattle.plan_pipes.specs.RowMeaning.{Table, rows_over}
use Rattle.pipe_types.specs.Exact.{exact_over}
use Rattle.pipe_types.specs.Over.{IsFeedOver, AreStepsOver, IsBreakerOver}
use Rattle.pipe_steps.specs.Tables.{tables_seen, joins_of}
use Rattle.cut_laws.specs.Found.{ReadRel}
use Rattle.open_blocks.specs.Files.{FilesSeen}
use Rattle.fed_laws.specs.Fed.{AreFedBy, FeedAll, Feeds, IsFedBy}
use Rattle.pipe_feeds.specs.Kept.{AreStreams}
use Rattle.pipe_feeds.specs.declared.stores.Stores.{Stores}
use Rattle.pipe_flows.specs.Inputs.{Part, ArePartsOf, told_by}

-- the types that were stored, and the joins that tables were built for
abbrev pub types_in : Stores → Past (List Ty) (Option JoinSpec)
types_in stores = record { streams = stores.types.items; tables = joins_of stores.tables.items }

-- these streams stand in memory, unless they were taken, and these tables
pub record StandsFor (past : Past (Stream Row) Table) (stores : Stores) : Type 0 where
  pub streams : AreStreams past.streams stores.streams.items
  pub tables : tables_seen stores.tables.items ≡ past.tables

-- a pipeline is well typed over what was stored
pub record IsPipeOn (columns : ℕ → List Ty) (past : Past (List Ty) (Option JoinSpec)) (pipe : Pipe) : Type 0 where
  pub feed : IsFeedOver columns past.streams pipe.feed
  pub steps : AreStepsOver past.tables (fed (exact_over columns) past.streams pipe.feed) pipe.steps
  pub breaker : IsBreakerOver (flow (exact_over columns) past pipe.feed pipe.steps) pipe.breaker

-- so is each of these, behind those before it
abbrev pub ArePipesOn : (ℕ → List Ty) → Past (List Ty) (Option JoinSpec) → List Pipe → Type 0
ArePipesOn columns past [] = Unit {0}
ArePipesOn columns past (pipe ∷ pipes) = IsPipeOn columns past pipe × ArePipesOn columns (after (exact_over columns) past pipe) pipes

-- whether a breaker builds a table
abbrev pub builds : Breaker → Bool
builds (breakers.Build join) = true
builds _ = false

-- the parts of what comes through the steps of a pipeline, by what feeds it
pub record FlowsFrom (files : List FilesSeen) (reads : List ReadRel) (feed : Feed) (steps : List Step) (breaker : Breaker) (stores : Stores) (types : List Ty) (parts : List Part) : Type 0 where
  pub given : Stream Row
  pub fed_by : IsFedBy (told_by files) reads feed given
  pub rows : (inputs : Tables) → Feeds inputs feed given → (past : Past (Stream Row) Table) → StandsFor past stores → ArePartsOf breaker types (flow (rows_over inputs) past feed steps) parts

-- a pipeline ran, by what fed it
pub record HasRunPipe (files : List FilesSeen) (reads : List ReadRel) (pipe : Pipe) (old new : Stores) : Type 0 where
  pub given : Stream Row
  pub fed_by : IsFedBy (told_by files) reads pipe.feed given
  pub stands : (inputs : Tables) → Feeds inputs pipe.feed given → (past : Past (Stream Row) Table) → StandsFor past old → StandsFor (after (rows_over inputs) past pipe) new

-- pipelines ran in order, by what fed each
pub record HaveRun (files : List FilesSeen) (reads : List ReadRel) (pipes : List Pipe) (stores : Stores) : Type 0 where
  pub given : List (Stream Row)
  pub fed_by : AreFedBy (told_by files) reads pipes given
  pub stands : (inputs : Tables) → FeedAll inputs pipes given → StandsFor (run_on (rows_over inputs) nothing_yet pipes) stores
