use Rattle.std.proofs.Common.{◌≡◌}
use Rattle.std.proofs.lemmas.List.Elements.{All-rest}
use Rattle.std.specs.Vec.Iter.{into_iter_items}
use Rattle.batch.specs.declared.batch.Piece.{Piece}
use Rattle.batch.specs.BatchRows.{types_of}
use Rattle.steps_tests.specs.Typed.{numbers}
use Rattle.steps_tests.proofs.steps.projected_pieces.Goals as goal

pub loop-piece-preserved : goal.loop-piece-preserved
loop-piece-preserved c = All-rest (λ (piece : Piece). types_of piece.batch ≡ numbers) c.in-Some.piece (into_iter_items c.next.new.self) _ c.in-Some.ensures.steps.0 c.loop-piece.invariant
