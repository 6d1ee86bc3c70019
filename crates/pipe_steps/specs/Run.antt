-- How many pieces of an input are through.
use Rattle.std.specs.Prelude.{◌≡◌, List, ◌++◌, Bool, map}
use Rattle.sub_types.specs.Stream.{Stream}
use Rattle.plan_denote.specs.Rows.{Row}
use Rattle.batch.specs.declared.batch.Piece.{Piece}
use Rattle.batch.specs.BatchRows.{stream_of_piece}
use Rattle.plan_pipes.specs.declared.pipe.Step.{Step}
use Rattle.plan_pipes.specs.RowMeaning.{Table}
use Rattle.plan_pipes.specs.Pieces.{Agree, marks_through, piece_through}
use Rattle.pipe_steps.specs.Marked.{HaveMarks}

-- all pieces but the rest are through the steps, and left their marks
pub record AreThrough (tables : List Table) (steps : List Step) (all rest : List Piece) (marks : List (List Bool)) (out : List Piece) : Type 0 where
  pub done : List (Stream Row)
  pub input : map stream_of_piece all ≡ done ++ map stream_of_piece rest
  pub given : map stream_of_piece out ≡ map (piece_through tables steps) done
  pub have : HaveMarks tables steps marks
  pub marked : Agree tables steps (marks_through tables steps done) marks
