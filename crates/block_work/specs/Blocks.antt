-- What is made of what was read for a block.
use Rattle.std.specs.Prelude.{◌≡◌, ℕ, List, [], Option, Some, None, map, slice_get, slice_index_or}
use Rattle.sub_types.specs.Stream.{Stream}
use Rattle.plan_denote.specs.Rows.{Row}
use Rattle.arrow_meta.specs.Batch.{rows_in}
use Rattle.arrow_decode.specs.declared.dictionary.DictColumn.{DictColumn}
use Rattle.arrow_decode.specs.declared.raw.Raw.{Raw}
use Rattle.arrow_decode.specs.Seen.{wanted_with, wanted_type}
use Rattle.block_source.specs.declared.block.BlockRead.{BlockRead}
use Rattle.block_source.specs.declared.block.BlockRead.TheVariants as reads
use Rattle.block_source.specs.declared.file.BlockFile.{BlockFile}
use Rattle.block_source.specs.declared.file.BlockPlace.{BlockPlace}
use Rattle.block_source.specs.Places.{places_of}
use Rattle.round_end.specs.declared.outcome.Outcome.{Outcome}
use Rattle.round_end.specs.declared.outcome.Outcome.TheVariants.{ReadFault}
use Rattle.table_rows.specs.Blocks.{block_stream}
use Rattle.table_rows.specs.Read.{kinds_of}
use Rattle.pipe_work.specs.declared.kept.Kept.{Kept}
use Rattle.pipe_work.specs.Kept.{IsMade}
use Rattle.block_work.specs.declared.reading.TableSteps.{TableSteps}

-- the dictionaries of a file, if it exists
abbrev pub dictionaries_in : Option BlockFile → List DictColumn
dictionaries_in None = []
dictionaries_in (Some one) = one.head.dictionaries.items

-- the rows of the wanted columns in a block that was read, by its file's dictionaries; none where it is bad
abbrev pub rows_by : List DictColumn → Raw → Option (List Row)
rows_by dictionaries raw = rows_in raw.shapes.items raw.meta raw.body.items (map (wanted_with dictionaries) raw.columns.items)

-- the same at a place
abbrev pub rows_with : TableSteps → BlockPlace → Raw → Option (List Row)
rows_with steps place raw = rows_by (dictionaries_in (slice_get steps.table.now.files.items place.file)) raw

-- the stream of the block at a place, by its rows
abbrev pub block_at : TableSteps → BlockPlace → Option (List Row) → Stream Row
block_at steps place rows = block_stream steps.relation (slice_index_or steps.numbers.now place.file 0) place.block rows

-- a failed read stays one; else the rows are taken through the steps, where they have the kinds of the input's columns, and what the breaker needs is kept
abbrev pub IsMadeOf : TableSteps → ℕ → BlockRead → Outcome Kept → Type 0
IsMadeOf steps number (reads.Whole raw) made = (place : BlockPlace) → slice_get (places_of steps.table.now.files.items) number ≡ Some place → kinds_of (map wanted_type raw.columns.items) ≡ kinds_of steps.pipe.now.types
    → IsMade steps.pipe.now (block_at steps place (rows_with steps place raw)) made
IsMadeOf steps number reads.Bad made = (place : BlockPlace) → slice_get (places_of steps.table.now.files.items) number ≡ Some place → IsMade steps.pipe.now (block_at steps place None) made
IsMadeOf steps number reads.Failed made = made ≡ ReadFault
IsMadeOf steps number reads.Absent made = Unit {0}
