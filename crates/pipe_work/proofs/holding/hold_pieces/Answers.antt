use Rattle.std.proofs.Common.{◌≡◌, ◌∙◌, [], ◌∷◌, ◌++◌, map, append_assoc, refl, sym, ap, subst}
use Rattle.std.specs.List.{All}
use Rattle.std.specs.Vec.Iter.{into_iter_items}
use Rattle.std.proofs.lemmas.List.{map-append}
use Rattle.std.proofs.lemmas.List.Elements.{All-head, All-tail}
use Rattle.hand_off.proofs.Popping.{pushed_all}
use Rattle.batch.specs.declared.batch.Piece.{Piece}
use Rattle.batch.specs.BatchRows.{types_of}
use Rattle.pipe_steps.specs.Ready.{IsReady}
use Rattle.pipe_work.specs.declared.held.HeldPiece.{HeldPiece}
use Rattle.pipe_work.proofs.holding.hold_pieces.Goals as goal

pub invariant_of-push : goal.invariant_of-push
invariant_of-push c =
    let l = c.loop-piece in
    let rest = into_iter_items c.next.new.self in
    let step = c.in-Some.ensures.steps.0 in
    let P : Piece → Type 0 = λ piece. types_of piece.batch ≡ c.args.pipe.now.types in
    let R : Piece → Type 0 = λ piece. IsReady c.args.pipe.now.steps piece.batch in
    record { typed = All-head P c.in-Some.piece rest (subst (All P) step l.invariant.typed); ready = All-head R c.in-Some.piece rest (subst (All R) step l.invariant.ready) }

pub loop-piece-preserved : goal.loop-piece-preserved
loop-piece-preserved c =
    let l = c.loop-piece in
    let piece = c.in-Some.piece in
    let rest = into_iter_items c.next.new.self in
    let step = c.in-Some.ensures.steps.0 in
    let own = λ (one : HeldPiece). one.piece in
    let P : Piece → Type 0 = λ one. types_of one.batch ≡ c.args.pipe.now.types in
    let R : Piece → Type 0 = λ one. IsReady c.args.pipe.now.steps one.batch in
    record {
      all = ap (λ (held : _). map own held ++ rest) c.in_ok-push.ensures.items
          ∙ ap (λ (held : _). held ++ rest) (map-append own l.held.items _)
          ∙ append_assoc (map own l.held.items) (piece ∷ []) rest
          ∙ ap (λ (more : _). map own l.held.items ++ more) (sym step)
          ∙ l.invariant.all;
      of_pipe = pushed_all (λ (one : HeldPiece). one.pipe.now ≡ c.args.pipe.now) _ _ _ c.in_ok-push.ensures.items l.invariant.of_pipe refl;
      typed = All-tail P piece rest (subst (All P) step l.invariant.typed);
      ready = All-tail R piece rest (subst (All R) step l.invariant.ready);
    }
