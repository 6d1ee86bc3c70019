-- The reads that are made for blocks: the body of each good one by one read, and none where it is bad or empty.
use Rattle.std.specs.Prelude.{◌≡◌, ℕ, List, [], ◌∷◌, ◌++◌, Option, Some, None, slice_get, vec_len, ◌==◌, if◌then◌else◌}
use Rattle.std.specs.List.{range_with_len, flat_map}
use Rattle.world.specs.Reads.{Reads}
use Rattle.arrow_meta.specs.declared.meta.Block.{Block}
use Rattle.arrow_meta.specs.declared.meta.RecordMeta.{RecordMeta}
use Rattle.arrow_read.specs.declared.head.FileHead.{FileHead}
use Rattle.arrow_read.specs.BlockReads.{body_start, body_len}
use Rattle.block_source.specs.declared.file.BlockFile.{BlockFile}
use Rattle.block_source.specs.declared.file.BlockPlace.{BlockPlace}
use Rattle.block_source.specs.Places.{places_of}
use Rattle.block_source.specs.Told.{told_of, AreReadBy}
use Rattle.hand_off.specs.Hand.{IsSameBag}

-- the read of a body, if it isn't empty
abbrev pub read_of_body : Block → Reads
read_of_body block = if body_len block == 0 then [] else (body_start block, body_len block) ∷ []

-- the read for a block with what its metadata is, if it is good
abbrev pub read_with : Option (Option RecordMeta) → Option Block → Reads
read_with (Some (Some meta)) (Some block) = read_of_body block
read_with _ _ = []

-- the read for the block at a place of the footer
abbrev pub body_read : FileHead → ℕ → Reads
body_read head block = read_with (slice_get head.metas.items block) (slice_get head.blocks.items block)

-- the reads for all blocks of a file, once each
abbrev pub body_reads : FileHead → Reads
body_reads head = flat_map (body_read head) (range_with_len 0 (vec_len head.blocks))

-- the read for a block of a file, if it exists
abbrev pub read_in : Option BlockFile → ℕ → Reads
read_in None block = []
read_in (Some one) block = body_read one.head block

-- what is read of the file at this place for the block at a place, if it exists
abbrev pub read_at : List BlockFile → ℕ → Option BlockPlace → Reads
read_at files file None = []
read_at files file (Some place) = if place.file == file then read_in (slice_get files file) place.block else []

-- what is read of the file at this place for a number
abbrev pub reading : List BlockFile → ℕ → ℕ → Reads
reading files file number = read_at files file (slice_get (places_of files) number)

-- of each file what is told was read for the blocks with these numbers
abbrev pub AreReadFor : List BlockFile → List (Option Reads) → List ℕ → Type 0
AreReadFor files reads numbers = AreReadBy (reading files) reads numbers

-- each file's reader gained the reads for all of its blocks, once each
abbrev pub AreReadOnce : List BlockFile → List (Option Reads) → List (Option Reads) → Type 0
AreReadOnce files start now = (file : ℕ) (one : BlockFile) (told : Reads) → slice_get files file ≡ Some one → told_of now file ≡ Some told
    → (before : Reads) × (told_of start file ≡ Some before) × IsSameBag told (before ++ body_reads one.head)
