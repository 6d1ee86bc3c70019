use Rattle.std.proofs.Common.{map}
use Rattle.batch.specs.BatchRows.{stream_of_piece}
use Rattle.pipe_work.specs.declared.held.HeldPiece.{HeldPiece}
use Rattle.pipe_round.proofs.WorkedLaws.{settled_all, settled_marks}
use Rattle.pipe_round.proofs.pieces.run_pieces.Goals as goal

pub settle_pieces-requires : goal.settle_pieces-requires
settle_pieces-requires g c =
    let pipe = c.args.pipe.now in
    let pieces = c.args.pieces.now in
    let round = c.in_ok-round in
    record {
      marks = settled_marks pipe (map (λ (held : HeldPiece). stream_of_piece held.piece) pieces) round.round.outs.items (settled_all pipe pieces round.round.outs.items c.requires.of_pipe round.ensures.numbers round.ensures.made);
    }

pub returns-clause-parts : goal.returns-clause-parts
returns-clause-parts g c =
    let pipe = c.args.pipe.now in
    let pieces = c.args.pieces.now in
    let round = c.in_ok-round in
    c.in-Ok.ensures.parts (map (λ (held : HeldPiece). stream_of_piece held.piece) pieces) (settled_all pipe pieces round.round.outs.items c.requires.of_pipe round.ensures.numbers round.ensures.made)
