use Rattle.std.proofs.Common.{◌≡◌, ◌≤◌, take}
use Rattle.world.specs.Notes.{said}
use Rattle.run_words.proofs.SaidLaws.{pieces_text}
use Rattle.run_words.proofs.line.say_pieces.Given as goal

abbrev pub invariant-loop-piece : goal.invariant-loop-piece
invariant-loop-piece g l = record {
  text : g.N.Notes.text l.notes ≡ said (g.N.Notes.text l.fn.notes) (pieces_text (take l.piece-index l.pieces));
  never_falls : g.N.Notes.failures l.fn.notes ≤ g.N.Notes.failures l.notes;
}
