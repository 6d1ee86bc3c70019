-- What runs in order: what was gathered and built stays, and what the last pipeline adds.
use Rattle.std.proofs.Common.{◌≡◌, ◌∙◌, ℕ, ◌+◌, ◌<◌, List, [], ◌∷◌, ◌++◌, length, get_or, refl, sym, ap, arith, append_assoc}
use Rattle.std.proofs.lemmas.List.{append-nil, length-append, get_or_append_left}
use Rattle.std.proofs.Math.Seq.{get_or-append_seam}
use Rattle.plan_pipes.specs.declared.pipe.Pipe.{Pipe}
use Rattle.plan_pipes.specs.Run.{Meaning, Past, nothing_yet, stream_at, flow, built, after, run_on, run}

run_on-append {ℓ} : {D T : Type ℓ} (m : Meaning D T) (past : Past D T) (pipes more : List Pipe) → run_on m past (pipes ++ more) ≡ run_on m (run_on m past pipes) more
run_on-append m past [] more = refl
run_on-append m past (pipe ∷ pipes) more = run_on-append m (after m past pipe) pipes more

-- what runs behind pipelines goes on from what they left
pub run-append {ℓ} : {D T : Type ℓ} (m : Meaning D T) (pipes more : List Pipe) → run m (pipes ++ more) ≡ run_on m (run m pipes) more
unfolding run
run-append m pipes more = run_on-append m nothing_yet pipes more

pub run-last {ℓ} : {D T : Type ℓ} (m : Meaning D T) (pipes : List Pipe) (pipe : Pipe) → run m (pipes ++ pipe ∷ []) ≡ after m (run m pipes) pipe
run-last m pipes pipe = run-append m pipes (pipe ∷ [])

-- the streams and the tables only grow at their ends
more_streams {ℓ} : {D T : Type ℓ} (m : Meaning D T) (past : Past D T) (pipes : List Pipe) → (more : List D) × ((run_on m past pipes).streams ≡ past.streams ++ more)
more_streams m past [] = ([], sym (append-nil past.streams))
more_streams m past (pipe ∷ pipes) =
    let here = m.gather pipe.breaker (flow m past pipe.feed pipe.steps) ∷ [] in
    let rest = more_streams m (after m past pipe) pipes in
    (here ++ rest.0, rest.1 ∙ append_assoc past.streams here rest.0)

more_tables {ℓ} : {D T : Type ℓ} (m : Meaning D T) (past : Past D T) (pipes : List Pipe) → (more : List T) × ((run_on m past pipes).tables ≡ past.tables ++ more)
more_tables m past [] = ([], sym (append-nil past.tables))
more_tables m past (pipe ∷ pipes) =
    let here = built m pipe.breaker (flow m past pipe.feed pipe.steps) in
    let rest = more_tables m (after m past pipe) pipes in
    (here ++ rest.0, rest.1 ∙ append_assoc past.tables here rest.0)

length_on {ℓ} : {D T : Type ℓ} (m : Meaning D T) (past : Past D T) (pipes : List Pipe) → length (run_on m past pipes).streams ≡ length past.streams + length pipes
length_on m past [] = omega arith
length_on m past (pipe ∷ pipes) =
    let here = m.gather pipe.breaker (flow m past pipe.feed pipe.steps) in
    omega (arith, length_on m (after m past pipe) pipes, length-append past.streams (here ∷ []))

-- one stream for each pipeline
pub length-streams {ℓ} : {D T : Type ℓ} (m : Meaning D T) (pipes : List Pipe) → length (run m pipes).streams ≡ length pipes
unfolding run
length-streams m pipes = omega (arith, length_on m nothing_yet pipes)

pub stream_stays {ℓ} : {D T : Type ℓ} (m : Meaning D T) (pipes more : List Pipe) (at : ℕ) → at < length pipes → stream_at m (run m (pipes ++ more)).streams at ≡ stream_at m (run m pipes).streams at
stream_stays m pipes more at there =
    let grown = more_streams m (run m pipes) more in
    let within : at < length (run m pipes).streams = omega (arith, there, length-streams m pipes) in
    ap (λ (past : Past _ _). stream_at m past.streams at) (run-append m pipes more)
    ∙ ap (λ streams. stream_at m streams at) grown.1
    ∙ get_or_append_left (run m pipes).streams grown.0 m.no_stream at within

pub table_stays {ℓ} : {D T : Type ℓ} (m : Meaning D T) (pipes more : List Pipe) (at : ℕ) (none : T) → at < length (run m pipes).tables → get_or (run m (pipes ++ more)).tables at none ≡ get_or (run m pipes).tables at none
table_stays m pipes more at none there =
    let grown = more_tables m (run m pipes) more in
    ap (λ (past : Past _ _). get_or past.tables at none) (run-append m pipes more)
    ∙ ap (λ tables. get_or tables at none) grown.1
    ∙ get_or_append_left (run m pipes).tables grown.0 none at there

-- no table goes away
pub tables_grow {ℓ} : {D T : Type ℓ} (m : Meaning D T) (pipes more : List Pipe) → (later : List T) × ((run m (pipes ++ more)).tables ≡ (run m pipes).tables ++ later)
tables_grow m pipes more =
    let grown = more_tables m (run m pipes) more in
    (grown.0, ap (λ (past : Past _ _). past.tables) (run-append m pipes more) ∙ grown.1)

-- what the last pipeline gathers
pub last_gathered {ℓ} : {D T : Type ℓ} (m : Meaning D T) (pipes : List Pipe) (pipe : Pipe)
    → stream_at m (run m (pipes ++ pipe ∷ [])).streams (length pipes) ≡ m.gather pipe.breaker (flow m (run m pipes) pipe.feed pipe.steps)
last_gathered m pipes pipe =
    let here = m.gather pipe.breaker (flow m (run m pipes) pipe.feed pipe.steps) in
    ap (λ (past : Past _ _). stream_at m past.streams (length pipes)) (run-last m pipes pipe)
    ∙ ap (λ at. stream_at m ((run m pipes).streams ++ here ∷ []) at) (sym (length-streams m pipes))
    ∙ get_or-append_seam (run m pipes).streams here [] m.no_stream

-- and what it builds
pub last_built {ℓ} : {D T : Type ℓ} (m : Meaning D T) (pipes : List Pipe) (pipe : Pipe)
    → (run m (pipes ++ pipe ∷ [])).tables ≡ (run m pipes).tables ++ built m pipe.breaker (flow m (run m pipes) pipe.feed pipe.steps)
last_built m pipes pipe = ap (λ (past : Past _ _). past.tables) (run-last m pipes pipe)
