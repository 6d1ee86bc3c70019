-- The blocks of a table's files, as streams.
use Rattle.std.specs.Prelude.{◌≡◌, ℕ, List, [], ◌∷◌, Option, Some, slice_get}
use Rattle.sub_types.specs.declared.value.Value.{Value}
use Rattle.sub_types.specs.Stream.{Stream}
use Rattle.arrow_meta.specs.Table.{rows_of}
use Rattle.arrow_read.specs.Told.{IfTold}
use Rattle.block_source.specs.declared.file.BlockFile.{BlockFile}
use Rattle.block_source.specs.declared.file.BlockPlace.{BlockPlace}
use Rattle.block_source.specs.Seen.{bytes_of}
use Rattle.block_rows.specs.declared.table.TableRows.{TableRows}
use Rattle.block_rows.specs.Made.{block_at}

-- the rows of the block at a place, each tested, or the fault that it can't be read, where the bytes of its file are told
abbrev pub IsBlock : TableRows → List (Option (List ℕ)) → BlockPlace → Stream (List Value) → Type 0
IsBlock rows bytes place piece =
    (one : BlockFile) → slice_get rows.table.now.files.items place.file ≡ Some one → IfTold (bytes_of bytes place.file) (λ told. piece ≡ block_at rows place (rows_of told place.block one.wanted.items))

-- of each place in order
abbrev pub AreBlocks : TableRows → List (Option (List ℕ)) → List BlockPlace → List (Stream (List Value)) → Type 0
AreBlocks rows bytes [] [] = Unit {0}
AreBlocks rows bytes (place ∷ places) (piece ∷ input) = IsBlock rows bytes place piece × AreBlocks rows bytes places input
AreBlocks rows bytes _ _ = ⊥
