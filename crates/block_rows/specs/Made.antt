-- What is made of what was read for a block.
use Rattle.std.specs.Prelude.{◌≡◌, ℕ, List, [], Option, Some, None, map, slice_get, slice_index_or}
use Rattle.sub_types.specs.declared.fault.Fault.{Fault}
use Rattle.sub_types.specs.declared.value.Value.{Value}
use Rattle.sub_types.specs.Stream.{Stream, rows_alone, each}
use Rattle.batch.specs.declared.batch.Batch.{Batch}
use Rattle.batch.specs.declared.batch.Piece.{Piece}
use Rattle.batch.specs.BatchRows.{rows_of}
use Rattle.arrow_meta.specs.Batch.{rows_in}
use Rattle.arrow_decode.specs.declared.dictionary.DictColumn.{DictColumn}
use Rattle.arrow_decode.specs.declared.raw.Raw.{Raw}
use Rattle.arrow_decode.specs.Seen.{wanted_with, wanted_type}
use Rattle.block_source.specs.declared.block.BlockRead.{BlockRead}
use Rattle.block_source.specs.declared.block.BlockRead.TheVariants as reads
use Rattle.block_source.specs.declared.file.BlockFile.{BlockFile}
use Rattle.block_source.specs.declared.file.BlockPlace.{BlockPlace}
use Rattle.block_source.specs.Places.{places_of}
use Rattle.round_end.specs.declared.outcome.Outcome.{Outcome}
use Rattle.round_end.specs.declared.outcome.Outcome.TheVariants.{Made, Ended, ReadFault}
use Rattle.table_rows.specs.Blocks.{HoldsTypes, IsReadFault, block_stream}
use Rattle.table_rows.specs.Read.{kinds_of, read_row}
use Rattle.block_rows.specs.declared.table.TableRows.{TableRows}

-- the dictionaries of a file, if it exists
abbrev pub dictionaries_in : Option BlockFile → List DictColumn
dictionaries_in None = []
dictionaries_in (Some one) = one.head.dictionaries.items

-- the rows of the wanted columns in a block that was read, by its file's dictionaries; none where it is bad
abbrev pub rows_by : List DictColumn → Raw → Option (List (List Value))
rows_by dictionaries raw = rows_in raw.shapes.items raw.meta raw.body.items (map (wanted_with dictionaries) raw.columns.items)

-- the same at a place
abbrev pub rows_with : TableRows → BlockPlace → Raw → Option (List (List Value))
rows_with rows place raw = rows_by (dictionaries_in (slice_get rows.table.now.files.items place.file)) raw

-- the number of the file at a place
abbrev pub number_at : TableRows → BlockPlace → ℕ
number_at rows place = slice_index_or rows.numbers.now place.file 0

-- the rows of the block at a place, each tested, up to the first fault
abbrev pub block_at : TableRows → BlockPlace → Option (List (List Value)) → Stream (List Value)
block_at rows place found = each (read_row rows.relation rows.types.now) (block_stream rows.relation (number_at rows place) place.block found)

-- a piece as the outcome of a worker
abbrev pub with_end : Batch → Option Fault → Outcome Batch
with_end batch None = Made batch
with_end batch (Some fault) = Ended batch fault

abbrev pub is_made : Piece → Outcome Batch
is_made piece = with_end piece.batch piece.end

-- a batch of the table's types with the stream's rows, and the stream's fault, which is one of this block
abbrev pub IsRowsAt : TableRows → BlockPlace → Stream (List Value) → Outcome Batch → Type 0
IsRowsAt rows place stream (Made batch) = HoldsTypes rows.types.now batch × (stream ≡ rows_alone (rows_of batch))
IsRowsAt rows place stream (Ended batch fault) =
    HoldsTypes rows.types.now batch × (stream ≡ record { rows = rows_of batch; end = Some fault }) × IsReadFault rows.relation (number_at rows place) place.block fault
IsRowsAt rows place stream ReadFault = ⊥

-- a failed read stays one; else the rows are those of the block, where it has the kinds of the table's types
abbrev pub IsMadeOf : TableRows → ℕ → BlockRead → Outcome Batch → Type 0
IsMadeOf rows number (reads.Whole raw) made = (place : BlockPlace) → slice_get (places_of rows.table.now.files.items) number ≡ Some place
    → kinds_of (map wanted_type raw.columns.items) ≡ kinds_of rows.types.now → IsRowsAt rows place (block_at rows place (rows_with rows place raw)) made
IsMadeOf rows number reads.Bad made = (place : BlockPlace) → slice_get (places_of rows.table.now.files.items) number ≡ Some place → IsRowsAt rows place (block_at rows place None) made
IsMadeOf rows number reads.Failed made = made ≡ ReadFault
IsMadeOf rows number reads.Absent made = Unit {0}
