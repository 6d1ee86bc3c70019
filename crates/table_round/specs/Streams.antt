-- The blocks of a table's files, as streams.
use Rattle.std.specs.Prelude.{◌≡◌, ℕ, List, [], ◌∷◌, Option, Some, slice_get}
use Rattle.sub_types.specs.Stream.{Stream}
use Rattle.plan_denote.specs.Rows.{Row}
use Rattle.arrow_meta.specs.Table.{rows_of}
use Rattle.arrow_read.specs.Told.{IfTold}
use Rattle.block_source.specs.declared.file.BlockFile.{BlockFile}
use Rattle.block_source.specs.declared.file.BlockPlace.{BlockPlace}
use Rattle.block_source.specs.Seen.{bytes_of}
use Rattle.block_work.specs.declared.reading.TableSteps.{TableSteps}
use Rattle.block_work.specs.Blocks.{block_at}

-- the rows of the block at a place, or no rows and the fault that it can't be read, where the bytes of its file are told
abbrev pub IsBlock : TableSteps → List (Option (List ℕ)) → BlockPlace → Stream Row → Type 0
IsBlock steps bytes place piece =
    (one : BlockFile) → slice_get steps.table.now.files.items place.file ≡ Some one → IfTold (bytes_of bytes place.file) (λ told. piece ≡ block_at steps place (rows_of told place.block one.wanted.items))

-- of each place in order
abbrev pub AreBlocks : TableSteps → List (Option (List ℕ)) → List BlockPlace → List (Stream Row) → Type 0
AreBlocks steps bytes [] [] = Unit {0}
AreBlocks steps bytes (place ∷ places) (piece ∷ input) = IsBlock steps bytes place piece × AreBlocks steps bytes places input
AreBlocks steps bytes _ _ = ⊥
