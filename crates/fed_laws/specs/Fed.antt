-- What feeds pipelines, by what may be the table of each number.
use Rattle.std.specs.Prelude.{◌≡◌, ℕ, List, [], ◌∷◌, Option, IfSome, MatchOption, map}
use Rattle.sub_types.specs.Stream.{Stream}
use Rattle.plan_typed.specs.declared.rel.Source.{Source}
use Rattle.plan_typed.specs.declared.rel.Source.TheVariants as sources
use Rattle.plan_denote.specs.Denote.{Tables}
use Rattle.plan_denote.specs.Eval.{eval}
use Rattle.plan_denote.specs.Read.{virtual_rows}
use Rattle.plan_denote.specs.Rows.{Row}
use Rattle.plan_pipes.specs.declared.pipe.Feed.{Feed}
use Rattle.plan_pipes.specs.declared.pipe.Feed.TheVariants as feeds
use Rattle.plan_pipes.specs.declared.pipe.Pipe.{Pipe}
use Rattle.cut_laws.specs.Found.{ReadRel, read_at, rows_read}

-- which streams may be the table of a number: the one that is known, if one is
abbrev pub IsKnown : (ℕ → Option (Stream Row)) → ℕ → Stream Row → Type 0
IsKnown known number given = IfSome (known number) (λ table. given ≡ table)

-- what the read relation of a number reads: what may be its table, or the rows in the plan
abbrev pub IsReadFrom : (ℕ → Stream Row → Type 0) → ℕ → Source → Stream Row → Type 0
IsReadFrom May number (sources.Named names) given = May number given
IsReadFrom May number (sources.Rows rows) given = given ≡ virtual_rows number (map (map eval) rows)

abbrev pub IsReadAt : (ℕ → Stream Row → Type 0) → List ReadRel → ℕ → Stream Row → Type 0
IsReadAt May reads number given = MatchOption (read_at number reads) ⊥ (λ read. IsReadFrom May number read.source given)

-- what feeds a pipeline, if it is a read relation
abbrev pub IsFedBy : (ℕ → Stream Row → Type 0) → List ReadRel → Feed → Stream Row → Type 0
IsFedBy May reads (feeds.Read relation) given = IsReadAt May reads relation given
IsFedBy May reads _ given = Unit {0}

-- these inputs have it
abbrev pub Feeds : Tables → Feed → Stream Row → Type 0
Feeds inputs (feeds.Read relation) given = inputs relation ≡ given
Feeds inputs _ given = Unit {0}

-- the same of pipelines, one each
abbrev pub AreFedBy : (ℕ → Stream Row → Type 0) → List ReadRel → List Pipe → List (Stream Row) → Type 0
AreFedBy May reads [] [] = Unit {0}
AreFedBy May reads (pipe ∷ pipes) (given ∷ more) = IsFedBy May reads pipe.feed given × AreFedBy May reads pipes more
AreFedBy May reads _ _ = ⊥

abbrev pub FeedAll : Tables → List Pipe → List (Stream Row) → Type 0
FeedAll inputs [] [] = Unit {0}
FeedAll inputs (pipe ∷ pipes) (given ∷ more) = Feeds inputs pipe.feed given × FeedAll inputs pipes more
FeedAll inputs _ _ = ⊥

-- tables that may be, of which the read relations read inputs that feed the pipelines
pub record HaveTables (May : ℕ → Stream Row → Type 0) (reads : List ReadRel) (pipes : List Pipe) (given : List (Stream Row)) : Type 0 where
  pub tables : Tables
  pub inputs : Tables
  pub may_be : (number : ℕ) → May number (tables number)
  pub are_read : (number : ℕ) → inputs number ≡ rows_read tables number (read_at number reads)
  pub feed : FeedAll inputs pipes given
