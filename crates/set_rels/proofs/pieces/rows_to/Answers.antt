use Rattle.std.proofs.Common.{◌+◌, length, refl}
use Rattle.set_rels.specs.Inputs.{rows_in}
use Rattle.set_rels.proofs.PieceLaws.{length-more}
use Rattle.set_rels.proofs.pieces.rows_to.Goals as goal

pub loop-piece-preserved : goal.loop-piece-preserved
loop-piece-preserved c =
    length-more c.args.pieces.now c.loop-piece.piece-index c.loop-piece.end (c.loop-piece.end + c.piece-item.result.batch.rows) c.piece-item.result (c.args.from + length (rows_in c.args.pieces.now)) c.loop-piece-test.true c.piece-item.is refl c.loop-piece.invariant
