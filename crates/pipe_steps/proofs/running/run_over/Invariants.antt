use Rattle.std.proofs.Common.{◌≡◌}
use Rattle.std.specs.List.{All}
use Rattle.std.specs.Vec.Iter.{into_iter_items}
use Rattle.batch.specs.declared.batch.Piece.{Piece}
use Rattle.batch.specs.BatchRows.{types_of}
use Rattle.plan_pipes.specs.Run.{through}
use Rattle.pipe_types.specs.Exact.{exact_steps}
use Rattle.pipe_steps.specs.Behind.{IsStored}
use Rattle.pipe_steps.specs.Ready.{IsReady}
use Rattle.pipe_steps.specs.Run.{AreThrough}
use Rattle.pipe_steps.specs.Tables.{joins_of, tables_seen}
use Rattle.pipe_steps.proofs.running.run_over.Given as goal

-- the pieces so far are through, and those that are left may go
abbrev pub invariant-loop-piece : goal.invariant-loop-piece
invariant-loop-piece l = record {
  way : AreThrough (tables_seen l.fn.tables) l.fn.steps l.fn.input.items (into_iter_items l.piece-iterator) l.marks l.out.items;
  pieces : All (IsStored (through exact_steps (joins_of l.fn.tables) l.fn.steps l.fn.types)) l.out.items;
  typed : All (λ (piece : Piece). types_of piece.batch ≡ l.fn.types) (into_iter_items l.piece-iterator);
  ready : All (λ (piece : Piece). IsReady l.fn.steps piece.batch) (into_iter_items l.piece-iterator);
}
