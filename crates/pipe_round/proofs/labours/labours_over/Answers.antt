use Rattle.std.proofs.Common.{arith}
use Rattle.hand_off.proofs.Popping.{pushed_all}
use Rattle.pipe_labour.specs.declared.labour.PipeLabour.{PipeLabour}
use Rattle.piece_source.specs.declared.pieces.PieceSource.{PieceSource}
use Rattle.round_end.specs.declared.outcome.Outcome.{Outcome}
use Rattle.pipe_work.specs.declared.held.HeldPiece.{HeldPiece}
use Rattle.pipe_work.specs.declared.kept.Kept.{Kept}
use Rattle.pipe_work.specs.declared.work.PieceWork.{PieceWork}
use Rattle.pipe_round.specs.Unused.{IsUnused}
use Rattle.pipe_round.proofs.labours.labours_over.Goals as goal

pub loop-preserved : goal.loop-preserved
loop-preserved c =
    let i = c.loop.invariant in
    record {
      count = omega (arith, i.count, c.push_reserved.ensures.len);
      room = omega (arith, i.room, c.push_reserved.ensures.capacity);
      unused = pushed_all (λ (o : PipeLabour (PieceSource HeldPiece) PieceWork (Outcome Kept)). IsUnused c.args.pieces.now o.source.pieces.now o.source.loaded.items o.outs.items)
          _ _ _ c.push_reserved.ensures.items i.unused c.labour_over.ensures;
    }
