-- What the read relations of a relation read, by their numbers.
use Rattle.std.specs.Prelude.{ℕ, List, IfSome, map}
use Rattle.sub_types.specs.declared.kind.Ty.{Ty}
use Rattle.sub_types.specs.Stream.{Stream}
use Rattle.plan_denote.specs.Rows.{Row}
use Rattle.cut_laws.specs.Found.{ReadRel, read_at, types_read}
use Rattle.read_sources.specs.Seen.{read_seen}
use Rattle.read_sources.specs.declared.sources.ReadSource.{ReadSource}
use Rattle.open_blocks.specs.Files.{FilesSeen, AreOpenFor, files_at}
pub use Rattle.read_rounds.specs.Given.{Part, ArePartsOf, HaveParts}
pub use Rattle.read_rounds.specs.Told.{TellsRows, blocks_at}

-- the types of the columns of a read relation
abbrev pub columns_of : List ReadRel → ℕ → List Ty
columns_of reads number = types_read (read_at number reads)

abbrev pub reads_seen : List ReadSource → List ReadRel
reads_seen reads = map read_seen reads

-- the files are open for the read relation with their number, if there is one
abbrev pub IsOpenFor : List ReadRel → FilesSeen → Type 0
IsOpenFor reads one = IfSome (read_at one.relation reads) (λ read. AreOpenFor read.types one)

-- what may be the table of a number: the rows of its files, where these tell their bytes
abbrev pub told_by : List FilesSeen → ℕ → Stream Row → Type 0
told_by files number given = TellsRows (files_at number files) given
