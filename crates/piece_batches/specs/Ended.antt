-- The rows of batches and their end.
use Rattle.std.specs.Prelude.{List}
use Rattle.std.specs.List.{flat_map}
use Rattle.sub_types.specs.declared.value.Value.{Value}
use Rattle.sub_types.specs.Stream.{Stream}
use Rattle.batch.specs.BatchRows.{rows_of}
use Rattle.piece_batches.specs.declared.pieces.EndedBatches.{EndedBatches}

-- one batch after the other
abbrev pub ended_stream : EndedBatches → Stream (List Value)
ended_stream all = record { rows = flat_map rows_of all.batches.items; end = all.end }
