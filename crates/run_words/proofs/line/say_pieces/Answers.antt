use Rattle.std.proofs.Common.{sym, arith, inr}
use Rattle.run_words.proofs.SaidLaws.{said-nothing, said_more, said_part}
use Rattle.run_words.proofs.line.say_pieces.Goals as goal

pub loop-piece-init : goal.loop-piece-init
loop-piece-init g c = record { text = sym (said-nothing (g.N.Notes.text c.args.notes.now)); never_falls = omega arith }

pub loop-piece-preserved : goal.loop-piece-preserved
loop-piece-preserved g c =
    let text = g.N.Notes.text in
    record {
      text = said_more (text c.args.notes.now) (text c.loop-piece.notes) (text c.say.new.self) c.args.pieces.now c.loop-piece.piece-index (omega arith) c.loop-piece.invariant.text c.in-Ok.ensures.ok;
      never_falls = omega (arith, c.in-Ok.ensures.cause.never_falls, c.loop-piece.invariant.never_falls);
    }

pub returns-in_default-clause-said : goal.returns-in_default-clause-said
returns-in_default-clause-said g c =
    let text = g.N.Notes.text in
    let err = c.in_default.ensures.err in
    let part = said_part (text c.args.notes.now) (text c.loop-piece.notes) (text c.say.new.self) c.args.pieces.now c.loop-piece.piece-index err.0 (omega arith) c.loop-piece.invariant.text err.1 in
    let before = c.loop-piece.invariant.never_falls in
    let cause = c.in_default.ensures.cause in
    record {
      never_falls = omega (arith, cause.never_falls, before);
      text = inr (part.0, part.1, omega (arith, cause.failed, before));
    }
