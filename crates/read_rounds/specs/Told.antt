-- The rows that files tell, and how many blocks they have.
use Rattle.std.specs.Prelude.{◌≡◌, ℕ, List, Option, Some, None}
use Rattle.std.specs.List.{sum_by}
use Rattle.sub_types.specs.Stream.{Stream}
use Rattle.plan_denote.specs.Rows.{Row}
use Rattle.table_open.specs.Files.{TableFile}
use Rattle.block_source.specs.declared.file.BlockFile.{BlockFile}
use Rattle.open_blocks.specs.Files.{FilesSeen, AllTell, stream_in, tables_in}

-- the rows of files, where all of them tell their bytes
abbrev pub TellsRows : Option FilesSeen → Stream Row → Type 0
TellsRows None given = Unit {0}
TellsRows (Some one) given = AllTell one.bytes → given ≡ stream_in one

-- how many blocks files have
abbrev pub blocks_in : FilesSeen → ℕ
blocks_in one = sum_by (λ (file : TableFile). file.blocks) (tables_in one)

abbrev pub blocks_at : Option FilesSeen → ℕ
blocks_at None = 0
blocks_at (Some one) = blocks_in one

-- the files of a read relation by their parts
abbrev pub parts_seen : ℕ → List BlockFile → List ℕ → List (Option (List ℕ)) → FilesSeen
parts_seen relation files numbers bytes = record { relation = relation; files = files; numbers = numbers; bytes = bytes }
