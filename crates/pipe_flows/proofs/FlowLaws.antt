-- The parts of what comes through steps, and which steps a pipeline has.
use Rattle.std.proofs.Common.{◌≡◌, ◌∙◌, ◌-◌, ℕ, List, [], ◌∷◌, Bool, true, false, Option, Some, ◌==◌, length, take, drop, sym, ap, ap₂, subst, arith, if◌then◌else◌}
use Rattle.std.specs.Prelude.{IfSome, MatchOption}
use Rattle.std.specs.List.{All, AllByRecursion}
use Rattle.std.proofs.lemmas.List.{length-drop, take_all}
use Rattle.std.proofs.lemmas.List.Elements.{All-weaker, recursion_from_All}
use Rattle.sub_types.specs.declared.kind.Ty.{Ty}
use Rattle.sub_types.specs.Stream.{Stream}
use Rattle.batch.specs.declared.batch.Piece.{Piece}
use Rattle.plan_typed.specs.declared.rel.Source.{Source}
use Rattle.plan_denote.specs.Rows.{Row}
use Rattle.plan_pipes.specs.declared.pipe.Breaker.{Breaker}
use Rattle.plan_pipes.specs.declared.pipe.Step.{Step}
use Rattle.plan_pipes.specs.Run.{through}
use Rattle.plan_pipes.specs.RowMeaning.{row_steps}
use Rattle.pipe_types.specs.Exact.{exact_steps}
use Rattle.pipe_types.specs.Over.{AreStepsOver, IsBreakerOver}
use Rattle.pipe_steps.specs.Behind.{IsStored}
use Rattle.pipe_steps.specs.Tables.{joins_of, tables_seen}
use Rattle.pipe_steps.specs.declared.built.BuiltTable.{BuiltTable}
use Rattle.read_rounds.specs.Given.{Part, ArePartsOf, StepsSeen}
use Rattle.pipe_feeds.specs.Kept.{IsInput}
use Rattle.cut_laws.specs.Found.{ReadRel, read_at}
use Rattle.fed_laws.specs.Fed.{IsReadAt, IsReadFrom}
use Rattle.read_laws.specs.Typed.{IsTypedRead}
use Rattle.open_blocks.specs.Files.{FilesSeen, AreOpenFor}
use Rattle.pipe_flows.specs.Inputs.{IsOpenFor, told_by}

-- an input may go through steps
pub input_stored : (types : List Ty) (pieces : List Piece) → IsInput types pieces → All (IsStored types) pieces
input_stored types pieces is = λ i d below. record { typed = is.typed i d below; fit = is.fit i d below }

-- parts that are stored with types by another name
pub parts_as : (breaker : Breaker) (types own : List Ty) (rows : Stream Row) (parts : List Part) → own ≡ types → ArePartsOf breaker types rows parts → ArePartsOf breaker own rows parts
parts_as breaker types own rows parts same are = subst (λ (all : List Ty). ArePartsOf breaker all rows parts) (sym same) are

-- the steps of a pipeline over these types
abbrev pub steps_seen : List Step → List BuiltTable → List Ty → Breaker → StepsSeen
steps_seen steps tables types breaker = record { steps = steps; tables = tables; types = types; breaker = breaker }

pub steps_over : (pipe : StepsSeen) (steps : List Step) (tables : List BuiltTable) (own types : List Ty) (breaker : Breaker) → pipe ≡ steps_seen steps tables own breaker → own ≡ types → pipe ≡ steps_seen steps tables types breaker
steps_over pipe steps tables own types breaker is same = subst (λ (all : List Ty). pipe ≡ steps_seen steps tables all breaker) same is

-- the steps behind the first
pub rest_is : (steps : List Step) → take (length steps - 1) (drop 1 steps) ≡ drop 1 steps
rest_is steps = take_all (length steps - 1) (drop 1 steps) (omega (arith, length-drop 1 steps))

pub steps_behind : (pipe : StepsSeen) (steps : List Step) (tables : List BuiltTable) (own types : List Ty) (breaker : Breaker) → pipe ≡ steps_seen (take (length steps - 1) (drop 1 steps)) tables own breaker → own ≡ types → pipe ≡ steps_seen (drop 1 steps) tables types breaker
steps_behind pipe steps tables own types breaker is same = is ∙ ap₂ (λ (all : List Step) (ts : List Ty). steps_seen all tables ts breaker) (rest_is steps) same

pub breaker_behind : (steps : List Step) (tables : List BuiltTable) (own given types : List Ty) (breaker : Breaker) → own ≡ given → through exact_steps (joins_of tables) (drop 1 steps) given ≡ through exact_steps (joins_of tables) steps types
    → IsBreakerOver (through exact_steps (joins_of tables) steps types) breaker → IsBreakerOver (through exact_steps (joins_of tables) (take (length steps - 1) (drop 1 steps)) own) breaker
breaker_behind steps tables own given types breaker is same over =
    subst (λ (ts : List Ty). IsBreakerOver ts breaker) (sym (ap₂ (λ (all : List Step) (ts : List Ty). through exact_steps (joins_of tables) all ts) (rest_is steps) is ∙ same)) over

-- a read relation that is found
found_where : (one read : ReadRel) (found : Option ReadRel) (test : Bool) → IsTypedRead one → (found ≡ Some read → IsTypedRead read) → (if test then Some one else found) ≡ Some read → IsTypedRead read
found_where one read found true is later e = let same : one ≡ read = cc in subst IsTypedRead same is
found_where one read found false is later e = later e

found_typed : (reads : List ReadRel) (number : ℕ) (read : ReadRel) → AllByRecursion IsTypedRead reads → read_at number reads ≡ Some read → IsTypedRead read
found_typed [] number read all e = absurd (cc)
found_typed (one ∷ reads) number read all e = found_where one read (read_at number reads) (one.number == number) all.0 (found_typed reads number read all.1) e

pub found_read : (reads : List ReadRel) (number : ℕ) (read : ReadRel) → All IsTypedRead reads → Some read ≡ read_at number reads → IsTypedRead read
found_read reads number read all e = found_typed reads number read (recursion_from_All IsTypedRead reads all) (sym e)

-- files that are open for what is read are so for the read relation of a number
open_where : (one : FilesSeen) (number : ℕ) (reads : List ReadRel) (read : ReadRel) → Some read ≡ read_at number reads → IsOpenFor reads one → one.relation ≡ number → AreOpenFor read.types one
open_where one number reads read found opened same =
    subst (λ (other : Option ReadRel). IfSome other (λ r. AreOpenFor r.types one)) (ap (λ (n : ℕ). read_at n reads) same ∙ sym found) opened

pub open_at : (files : List FilesSeen) (number : ℕ) (reads : List ReadRel) (read : ReadRel) → Some read ≡ read_at number reads → All (IsOpenFor reads) files → All (λ (one : FilesSeen). one.relation ≡ number → AreOpenFor read.types one) files
open_at files number reads read found opened = All-weaker (IsOpenFor reads) (λ (one : FilesSeen). one.relation ≡ number → AreOpenFor read.types one) (λ one is. open_where one number reads read found is) files opened

-- the same over tables and types by other names
module _ (steps : List Step) (own tables : List BuiltTable) (given types : List Ty) (same : own ≡ tables) where
  pub over_as : given ≡ types → AreStepsOver (joins_of tables) types steps → AreStepsOver (joins_of own) given steps
  over_as is over = subst (λ (all : List BuiltTable). AreStepsOver (joins_of all) given steps) (sym same) (subst (λ (ts : List Ty). AreStepsOver (joins_of tables) ts steps) (sym is) over)

  pub types_as : given ≡ types → through exact_steps (joins_of own) steps given ≡ through exact_steps (joins_of tables) steps types
  types_as is = ap (λ (all : List BuiltTable). through exact_steps (joins_of all) steps given) same ∙ ap (through exact_steps (joins_of tables) steps) is

  pub breaker_as : (breaker : Breaker) → given ≡ types → IsBreakerOver (through exact_steps (joins_of tables) steps types) breaker → IsBreakerOver (through exact_steps (joins_of own) steps given) breaker
  breaker_as breaker is over = subst (λ (ts : List Ty). IsBreakerOver ts breaker) (sym (types_as is)) over

  pub rows_as : (stream other : Stream Row) → stream ≡ other → through row_steps (tables_seen own) steps stream ≡ through row_steps (tables_seen tables) steps other
  rows_as stream other is = ap (λ (all : List BuiltTable). through row_steps (tables_seen all) steps stream) same ∙ ap (through row_steps (tables_seen tables) steps) is

-- what a read relation that is found reads
pub read_here : (files : List FilesSeen) (number : ℕ) (reads : List ReadRel) (read : ReadRel) (source : Source) (given : Stream Row) → Some read ≡ read_at number reads → read.source ≡ source → IsReadFrom (told_by files) number source given → IsReadAt (told_by files) reads number given
read_here files number reads read source given found is own =
    subst (λ (one : Option ReadRel). MatchOption one ⊥ (λ (r : ReadRel). IsReadFrom (told_by files) number r.source given)) found (subst (λ (s : Source). IsReadFrom (told_by files) number s given) (sym is) own)
