use Rattle.std.proofs.Common.{◌≡◌, ◌++◌, All, map, subst, refl}
use Rattle.std.proofs.lemmas.List.Elements.{All-push, All-tail}
use Rattle.std.specs.Vec.Iter.{into_iter_items}
use Rattle.batch.specs.declared.batch.Piece.{Piece}
use Rattle.batch.specs.BatchRows.{types_of, stream_of_piece}
use Rattle.set_rels.specs.Inputs.{HasKinds}
use Rattle.set_rels.proofs.TypedLaws.{streams_more}
use Rattle.set_rels.proofs.typed.push_typed.Goals as goal

pub loop-piece-preserved : goal.loop-piece-preserved
loop-piece-preserved c =
    let piece = c.in-Some.piece in
    let rest = into_iter_items c.next.new.self in
    let new : Piece = record { batch = c.in_ok-typed_batch.field-0; end = piece.end } in
    record {
      streams =
          streams_more c.loop-piece.into.items c.push.new.self.items piece new (into_iter_items c.loop-piece.piece-iterator) rest (map stream_of_piece c.args.into.now.items ++ map stream_of_piece c.args.pieces.items)
          c.in-Some.ensures.steps.0 c.in_ok-push.ensures.items c.in_ok-typed_batch.ensures.rows refl c.loop-piece.invariant.streams;
      types = rw c.in_ok-push.ensures.items (All-push (λ (one : Piece). types_of one.batch ≡ c.args.types.now) c.loop-piece.into.items new c.loop-piece.invariant.types c.in_ok-typed_batch.ensures.types);
      kinds = All-tail (λ (one : Piece). HasKinds c.args.types.now one.batch) piece rest (subst (All (λ (one : Piece). HasKinds c.args.types.now one.batch)) c.in-Some.ensures.steps.0 c.loop-piece.invariant.kinds);
    }
