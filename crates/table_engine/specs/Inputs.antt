-- The tables of a relation, and what is gathered of it.
use Rattle.std.specs.Prelude.{ℕ, List}
use Rattle.std.specs.List.{flat_map}
use Rattle.sub_types.specs.Stream.{Stream}
use Rattle.batch.specs.BatchRows.{rows_of}
use Rattle.plan_denote.specs.Denote.{Tables}
use Rattle.plan_denote.specs.Rows.{Row}
use Rattle.open_blocks.specs.Files.{FilesSeen}
pub use Rattle.pipe_flows.specs.Inputs.{IsOpenFor, TellsRows, blocks_at, told_by}
pub use Rattle.pipe_flows.specs.Receipts.{IsReceiptAt, IsReceiptOf, batches_from, batches_read}
use Rattle.table_engine.specs.declared.run.Gathered.{Gathered}

-- tables that are those of files, wherever these tell their bytes
abbrev pub AreTablesOf : List FilesSeen → Tables → Type 0
AreTablesOf files tables = (number : ℕ) → told_by files number (tables number)

-- the rows of batches and their end
abbrev pub gathered_stream : Gathered → Stream Row
gathered_stream all = record { rows = flat_map rows_of all.batches.items; end = all.end }
