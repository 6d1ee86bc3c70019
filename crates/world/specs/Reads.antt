-- The reads that a reader or a folder tells: pairs of a place and a length.
use Rattle.std.specs.Prelude.{◌≡◌, ℕ, List, [], ◌∷◌, ◌++◌, Option, Some, None, Result, Ok, Err, IfSome}
use Rattle.std.specs.Option.{option_map, option_and_then}
use Rattle.world.specs.declared.error.FolderError.{FolderError}
use Rattle.world.specs.declared.error.FolderError.TheVariants.{Failed, NoMemory}

abbrev pub Reads : Type 0
Reads = List (ℕ × ℕ)

-- the second reads behind the first, told where both are
unfoldable pub joined_reads : Option Reads → Option Reads → Option Reads
joined_reads first second = option_and_then (λ a. option_map (λ b. a ++ b) second) first

-- what was asked for is among the reads, unless no memory was found to do so
unfoldable pub reads_after : {T : Type 0} → Result T FolderError → Option Reads → ℕ → ℕ → Option Reads
reads_after (Ok done) reads place len = option_map (λ told. told ++ (place, len) ∷ []) reads
reads_after (Err Failed) reads place len = option_map (λ told. told ++ (place, len) ∷ []) reads
reads_after (Err NoMemory) reads place len = reads

-- nothing was read yet, where it is told
unfoldable pub IsUnread : Option Reads → Type 0
IsUnread reads = IfSome reads (λ told. told ≡ [])

-- a reader that was just made: no faults, and nothing was read
pub record IsFresh (faults : ℕ) (reads : Option Reads) : Type 0 where
  pub no_faults : faults ≡ 0
  pub no_reads : IsUnread reads
