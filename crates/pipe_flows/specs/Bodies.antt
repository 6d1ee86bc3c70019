-- What read relations read of their files.
use Rattle.std.specs.Prelude.{◌≡◌, ℕ, List, [], ◌∷◌, Option, MatchOption}
use Rattle.world.specs.Reads.{Reads}
use Rattle.plan_typed.specs.declared.rel.Source.{Source}
use Rattle.plan_typed.specs.declared.rel.Source.TheVariants as sources
use Rattle.cut_laws.specs.Found.{ReadRel, read_at}
use Rattle.open_blocks.specs.Files.{FilesSeen}
pub use Rattle.read_rounds.specs.Bodies.{HaveRead, reads_made}

-- the bodies of its files were read once; a source in the plan reads none
abbrev pub HaveReadFrom : Source → List FilesSeen → ℕ → List (List (Option Reads)) → List (List (Option Reads)) → Type 0
HaveReadFrom (sources.Named names) files number start now = HaveRead number files start now
HaveReadFrom (sources.Rows rows) files number start now = now ≡ start

-- the same of the read relation of a number
abbrev pub HaveReadAt : List ReadRel → List FilesSeen → ℕ → List (List (Option Reads)) → List (List (Option Reads)) → Type 0
HaveReadAt reads files number start now = MatchOption (read_at number reads) ⊥ (λ read. HaveReadFrom read.source files number start now)

-- and of several, in turn
abbrev pub HaveReadInTurn : List ReadRel → List FilesSeen → List ℕ → List (List (Option Reads)) → List (List (Option Reads)) → Type 0
HaveReadInTurn reads files [] start now = now ≡ start
HaveReadInTurn reads files (number ∷ more) start now = (mid : List (List (Option Reads))) × HaveReadAt reads files number start mid × HaveReadInTurn reads files more mid now
