-- How far a piece is on its way through steps.
use Rattle.std.specs.Prelude.{◌≡◌, ℕ, List, [], ◌∷◌, ◌++◌, Bool, None, take, drop}
use Rattle.batch.specs.declared.batch.Piece.{Piece}
use Rattle.batch.specs.BatchRows.{stream_of_piece, types_of}
use Rattle.plan_pipes.specs.declared.pipe.Step.{Step}
use Rattle.plan_pipes.specs.Run.{through}
use Rattle.plan_pipes.specs.Pieces.{Agree, marks_through, merged_each, piece_through}
use Rattle.pipe_types.specs.Exact.{exact_steps}
use Rattle.pipe_types.specs.Over.{AreStepsOver}
use Rattle.pipe_steps.specs.declared.built.BuiltTable.{BuiltTable}
use Rattle.pipe_steps.specs.Marked.{HaveMarks}
use Rattle.pipe_steps.specs.Ready.{IsReady}
use Rattle.pipe_steps.specs.Tables.{joins_of, tables_seen}

-- marks that the piece's way through the steps leaves of earlier ones, where they are used
abbrev pub AreMarked : List BuiltTable → List Step → List (List Bool) → Piece → List (List Bool) → Type 0
AreMarked tables steps old piece new = Agree (tables_seen tables) steps (merged_each old (marks_through (tables_seen tables) steps (stream_of_piece piece ∷ []))) new

-- the steps before a place are behind it: what it gives through the others, and marks there, is what the input gives and marks through all
pub record IsThrough (tables : List BuiltTable) (steps : List Step) (old : List (List Bool)) (input : Piece) (at : ℕ) (marks : List (List Bool)) (piece : Piece) : Type 0 where
  pub over : AreStepsOver (joins_of tables) (types_of piece.batch) (drop at steps)
  pub ready : IsReady (drop at steps) piece.batch
  pub stream : piece_through (tables_seen tables) (drop at steps) (stream_of_piece piece) ≡ piece_through (tables_seen tables) steps (stream_of_piece input)
  pub types : through exact_steps (joins_of tables) (drop at steps) (types_of piece.batch) ≡ through exact_steps (joins_of tables) steps (types_of input.batch)
  pub have : HaveMarks (tables_seen tables) steps marks
  pub same : drop at marks ≡ drop at old
  pub marked : piece.end ≡ None → (later : List (List Bool)) → AreMarked tables (drop at steps) (drop at old) piece later → AreMarked tables steps old input (take at marks ++ later)
