use Rattle.std.proofs.Common.{ℕ, arith}
use Rattle.hand_off.proofs.Popping.{pushed_all}
use Rattle.pipe_labour.specs.declared.labour.PipeLabour.{PipeLabour}
use Rattle.piece_source.specs.declared.pieces.PieceSource.{PieceSource}
use Rattle.crew_tests.specs.Pieces.{IsUnused}
use Rattle.crew_tests.specs.declared.pieces.HalfPiece.{HalfPiece}
use Rattle.crew_tests.proofs.pieces.piece_halvers.Goals as goal

pub loop-preserved : goal.loop-preserved
loop-preserved c =
    let i = c.loop.invariant in
    record {
      count = omega (arith, i.count, c.push_reserved.ensures.len);
      room = omega (arith, i.room, c.push_reserved.ensures.capacity);
      unused = pushed_all (λ (o : PipeLabour (PieceSource ℕ) HalfPiece ℕ). IsUnused c.args.pieces.now o.source.pieces.now o.source.loaded.items o.outs.items)
          _ _ _ c.push_reserved.ensures.items i.unused c.piece_halver.ensures;
    }
