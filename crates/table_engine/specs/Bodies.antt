-- What a relation read of its files.
use Rattle.std.specs.Prelude.{◌≡◌, ◌≢◌, ◌≤◌, ◌==◌, ℕ, zero, suc, List, [], ◌∷◌, Option, Some, None, slice_index_or}
use Rattle.std.specs.List.{count_by}
use Rattle.world.specs.Reads.{Reads}
use Rattle.plan_typed.specs.declared.rel.Source.{Source}
use Rattle.plan_typed.specs.declared.rel.Source.TheVariants as sources
use Rattle.block_source.specs.Bodies.{AreReadOnce}
use Rattle.cut_laws.specs.Found.{ReadRel, read_at}
use Rattle.open_blocks.specs.Files.{FilesSeen}

-- these stand at the place, and none of their relation before them
abbrev pub IsFirst : List FilesSeen → ℕ → FilesSeen → Type 0
IsFirst [] at one = ⊥
IsFirst (first ∷ rest) zero one = first ≡ one
IsFirst (first ∷ rest) (suc at) one = (first.relation ≢ one.relation) × IsFirst rest at one

-- a source is one of files
abbrev pub IsOfFiles : Source → Type 0
IsOfFiles (sources.Named names) = Unit {0}
IsOfFiles (sources.Rows rows) = ⊥

abbrev pub ReadsFiles : Option ReadRel → Type 0
ReadsFiles None = ⊥
ReadsFiles (Some read) = IsOfFiles read.source

-- of each read relation with one of these numbers that reads files, the body of each good block of its files was read once, by the
-- file's reader
abbrev pub AreBodiesRead : List ReadRel → List ℕ → List FilesSeen → List (List (Option Reads)) → List (List (Option Reads)) → Type 0
AreBodiesRead reads numbers files start now = (at : ℕ) (one : FilesSeen) → IsFirst files at one → 1 ≤ count_by (λ number. number == one.relation) numbers → ReadsFiles (read_at one.relation reads)
    → AreReadOnce one.files (slice_index_or start at []) (slice_index_or now at [])
