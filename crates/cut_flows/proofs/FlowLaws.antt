-- What flows give as pipelines and steps are added, whatever a stream is.
use Rattle.std.proofs.Common.{◌≡◌, ◌∙◌, ℕ, ◌+◌, ◌<◌, List, [], ◌∷◌, ◌++◌, map, length, get_or, refl, sym, ap, arith, append_assoc}
use Rattle.std.proofs.lemmas.Grind.{flat_map-append}
use Rattle.std.proofs.lemmas.List.{append-nil, length-append}
use Rattle.std.proofs.Math.Seq.{get_or-append_seam}
use Rattle.std.specs.List.{AllByRecursion}
use Rattle.rel_specs.specs.declared.join.JoinSpec.{JoinSpec}
use Rattle.plan_pipes.specs.declared.pipe.Breaker.{Breaker}
use Rattle.plan_pipes.specs.declared.pipe.Breaker.TheVariants as breakers
use Rattle.plan_pipes.specs.declared.pipe.Pipe.{Pipe}
use Rattle.plan_pipes.specs.declared.pipe.Step.{Step}
use Rattle.plan_pipes.specs.Run.{StepMeaning, Meaning, Past, nothing_yet, stream_at, fed, stepped, through, flow, built, after, run_on, run}
use Rattle.plan_pipes.proofs.RunLaws.{stream_stays, table_stays, last_gathered, last_built}
use Rattle.cut_flows.specs.declared.flow.Flow.{Flow}
use Rattle.cut_flows.specs.Given.{flow_in, fed_by, fed_in, IsGrown}
use Rattle.cut_flows.specs.Flows.{flow_from, feed_of, with_step, pipe_of, build_of}
use Rattle.cut_flows.specs.Tables.{tables_of, tables_in}

through-last {ℓ} : {D T : Type ℓ} (m : StepMeaning D T) (tables : List T) (steps : List Step) (step : Step) (d : D) → through m tables (steps ++ step ∷ []) d ≡ stepped m tables step (through m tables steps d)
through-last m tables [] step d = refl
through-last m tables (first ∷ steps) step d = through-last m tables steps step (stepped m tables first d)

-- one step more
pub flow_step {ℓ} : {D T : Type ℓ} (m : Meaning D T) (pipes : List Pipe) (given : Flow) (step : Step) → flow_in m pipes (with_step given step) ≡ stepped m.steps (run m pipes).tables step (flow_in m pipes given)
flow_step m pipes given step = through-last m.steps (run m pipes).tables given.steps step (fed m (run m pipes).streams given.feed)

-- what a pipeline gathered is fed to the next
pub flow_next {ℓ} : {D T : Type ℓ} (m : Meaning D T) (pipes : List Pipe) (given : Flow) (breaker : Breaker)
    → flow_in m (pipes ++ pipe_of given breaker ∷ []) (flow_from (feed_of (length pipes))) ≡ m.gather breaker (flow_in m pipes given)
flow_next m pipes given breaker = last_gathered m pipes (pipe_of given breaker)

length-built {ℓ} : {D T : Type ℓ} (m : Meaning D T) (breaker : Breaker) (d : D) → length (built m breaker d) ≡ tables_of breaker
length-built m (breakers.Build spec) d = refl
length-built m breakers.Gather d = refl
length-built m (breakers.Fetch offset count) d = refl
length-built m (breakers.Aggregate spec) d = refl
length-built m (breakers.Sort keys) d = refl
length-built m (breakers.GroupSets spec) d = refl

length-tables_on {ℓ} : {D T : Type ℓ} (m : Meaning D T) (past : Past D T) (pipes : List Pipe) → length (run_on m past pipes).tables ≡ length past.tables + tables_in pipes
length-tables_on m past [] = omega arith
length-tables_on m past (pipe ∷ pipes) =
    let d = flow m past pipe.feed pipe.steps in
    omega (arith, length-tables_on m (after m past pipe) pipes, length-append past.tables (built m pipe.breaker d), length-built m pipe.breaker d)

pub length-tables {ℓ} : {D T : Type ℓ} (m : Meaning D T) (pipes : List Pipe) → length (run m pipes).tables ≡ tables_in pipes
unfolding run
length-tables m pipes = omega (arith, length-tables_on m nothing_yet pipes)

pub tables_in-last : (pipes : List Pipe) (pipe : Pipe) → tables_in (pipes ++ pipe ∷ []) ≡ tables_in pipes + tables_of pipe.breaker
tables_in-last [] pipe = omega arith
tables_in-last (first ∷ pipes) pipe = omega (arith, tables_in-last pipes pipe)

-- a table that was built is there, whatever runs behind it
pub table_built {ℓ} : {D T : Type ℓ} (m : Meaning D T) (pipes more : List Pipe) (given : Flow) (spec : JoinSpec) (none : T)
    → get_or (run m ((pipes ++ build_of given spec ∷ []) ++ more)).tables (tables_in pipes) none ≡ m.table spec (flow_in m pipes given)
table_built m pipes more given spec none =
    let pipe = build_of given spec in
    let table = m.table spec (flow_in m pipes given) in
    let there : tables_in pipes < length (run m (pipes ++ pipe ∷ [])).tables = omega (arith, length-tables m (pipes ++ pipe ∷ []), tables_in-last pipes pipe) in
    table_stays m (pipes ++ pipe ∷ []) more (tables_in pipes) none there
    ∙ ap (λ tables. get_or tables (tables_in pipes) none) (last_built m pipes pipe)
    ∙ ap (λ at. get_or ((run m pipes).tables ++ table ∷ []) at none) (sym (length-tables m pipes))
    ∙ get_or-append_seam (run m pipes).tables table [] none

-- streams at these places stay
pub streams_stay {ℓ} : {D T : Type ℓ} (m : Meaning D T) (pipes more : List Pipe) (places : List ℕ) → AllByRecursion (λ at. at < length pipes) places
    → map (stream_at m (run m (pipes ++ more)).streams) places ≡ map (stream_at m (run m pipes).streams) places
streams_stay m pipes more [] within = refl
streams_stay m pipes more (place ∷ places) within = λ i. stream_stays m pipes more place within.0 i ∷ streams_stay m pipes more places within.1 i

-- what grows grows further
pub not_grown : (pipes : List Pipe) → IsGrown pipes pipes
not_grown pipes = record { more = []; is = sym (append-nil pipes) }

pub grown_on : {before middle now : List Pipe} → IsGrown before middle → IsGrown middle now → IsGrown before now
grown_on {before} first second = record { more = first.more ++ second.more; is = second.is ∙ ap (λ all. all ++ second.more) first.is ∙ append_assoc before first.more second.more }

pub grown_last : {before now : List Pipe} (pipe : Pipe) → IsGrown before now → IsGrown before (now ++ pipe ∷ [])
grown_last {before} pipe first = record { more = first.more ++ pipe ∷ []; is = ap (λ all. all ++ pipe ∷ []) first.is ∙ append_assoc before first.more (pipe ∷ []) }

-- what feeds one pipeline more
pub fed_last : (pipes : List Pipe) (given : Flow) (breaker : Breaker) → fed_in (pipes ++ pipe_of given breaker ∷ []) ≡ fed_in pipes ++ fed_by given.feed
fed_last pipes given breaker =
    flat_map-append (λ (pipe : Pipe). fed_by pipe.feed) pipes (pipe_of given breaker ∷ [])
    ∙ ap (λ last. fed_in pipes ++ last) (append-nil (fed_by given.feed))
