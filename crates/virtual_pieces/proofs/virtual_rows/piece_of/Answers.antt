use Rattle.std.proofs.Common.{◌∙◌}
use Rattle.batch.specs.BatchRows.{rows_of}
use Rattle.virtual_pieces.proofs.ReadLaws.{holds_rows, stream_as}
use Rattle.virtual_pieces.proofs.virtual_rows.piece_of.Goals as goal

pub returns-clause-rows : goal.returns-clause-rows
returns-clause-rows c = stream_as (rows_of c.in_ok-batch.batch) c.args.read.rows c.args.read.end (c.in_ok-batch.ensures.rows ∙ c.as_slice.ensures)

pub returns-clause-held : goal.returns-clause-held
returns-clause-held c = holds_rows c.in_ok-batch.batch c.args.read.end c.args.types.now c.args.read.rows c.in_ok-batch.ensures.types (c.in_ok-batch.ensures.rows ∙ c.as_slice.ensures) c.requires.fit
