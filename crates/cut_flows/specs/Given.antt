-- What flows give behind pipelines, and what feeds them.
use Rattle.std.specs.Prelude.{◌≡◌, ℕ, ◌-◌, List, [], ◌∷◌, ◌++◌, length}
use Rattle.std.specs.List.{flat_map}
use Rattle.plan_pipes.specs.declared.pipe.Feed.{Feed}
use Rattle.plan_pipes.specs.declared.pipe.Feed.TheVariants as feeds
use Rattle.plan_pipes.specs.declared.pipe.Pipe.{Pipe}
use Rattle.plan_pipes.specs.Run.{Meaning, stream_at, flow, run}
use Rattle.cut_flows.specs.declared.flow.Flow.{Flow}

-- what a flow gives after pipelines
abbrev pub flow_in {ℓ} : {D T : Type ℓ} → Meaning D T → List Pipe → Flow → D
flow_in m pipes given = flow m (run m pipes) given.feed given.steps

-- what the last pipeline gathers
abbrev pub last_stream {ℓ} : {D T : Type ℓ} → Meaning D T → List Pipe → D
last_stream m pipes = stream_at m (run m pipes).streams (length pipes - 1)

-- the number of the read relation that a feed reads, and those of all pipelines
abbrev pub fed_by : Feed → List ℕ
fed_by (feeds.Read relation) = relation ∷ []
fed_by _ = []

abbrev pub fed_in : List Pipe → List ℕ
fed_in pipes = flat_map (λ (pipe : Pipe). fed_by pipe.feed) pipes

-- pipelines were only added behind those before
pub record IsGrown (before now : List Pipe) : Type 0 where
  pub more : List Pipe
  pub is : now ≡ before ++ more
