use Rattle.std.proofs.Common.{Vec, Global, All, map, subst}
use Rattle.std.specs.List.{flat_map}
use Rattle.std.proofs.lemmas.List.Elements.{All-tail}
use Rattle.std.specs.Vec.Iter.{into_iter_items}
use Rattle.batch.specs.declared.batch.Piece.{Piece}
use Rattle.batch.specs.BatchRows.{stream_of_piece}
use Rattle.set_rels.specs.Inputs.{HasKinds}
use Rattle.set_rels.proofs.TypedLaws.{inputs_more}
use Rattle.set_rels.proofs.sets.typed_pieces.Goals as goal

pub loop-pieces-preserved : goal.loop-pieces-preserved
loop-pieces-preserved c =
    let rest = into_iter_items c.next.new.self in
    record {
      streams =
          inputs_more (λ (input : Vec Piece Global). input.items) c.loop-pieces.all.items c.push_typed.new.into.items c.in-Some.pieces (into_iter_items c.loop-pieces.pieces-iterator) rest (flat_map (λ (input : Vec Piece Global). map stream_of_piece input.items) c.args.inputs.items)
          c.in-Some.ensures.steps.0 c.in_ok-push_typed.ensures.streams c.loop-pieces.invariant.streams;
      types = c.in_ok-push_typed.ensures.types;
      kinds = All-tail (λ (input : Vec Piece Global). All (λ (piece : Piece). HasKinds c.args.types.now piece.batch) input.items) c.in-Some.pieces rest (subst (All (λ (input : Vec Piece Global). All (λ (piece : Piece). HasKinds c.args.types.now piece.batch) input.items)) c.in-Some.ensures.steps.0 c.loop-pieces.invariant.kinds);
    }
