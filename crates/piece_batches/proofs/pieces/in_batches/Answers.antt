use Rattle.std.proofs.Common.{◌≡◌, false, Option, Some, None, refl, subst}
use Rattle.std.specs.Prelude.{is_some}
use Rattle.std.specs.List.{All}
use Rattle.std.specs.Vec.Iter.{into_iter_items}
use Rattle.std.proofs.lemmas.List.Elements.{All-tail}
use Rattle.sub_types.specs.declared.fault.Fault.{Fault}
use Rattle.batch.specs.declared.batch.Piece.{Piece}
use Rattle.batch.specs.BatchRows.{types_of}
use Rattle.table_rows.specs.Read.{kinds_of}
use Rattle.piece_batches.proofs.PieceLaws.{next_batch, next_typed}
use Rattle.piece_batches.proofs.pieces.in_batches.Goals as goal

no_end : (end : Option Fault) → false ≡ is_some end → end ≡ None
no_end None is = refl
no_end (Some fault) is = absurd (cc)

pub loop-piece-preserved : goal.loop-piece-preserved
loop-piece-preserved c =
    let l = c.loop-piece in
    let rest = into_iter_items c.next.new.self in
    let piece = c.in-Some.piece in
    let K = λ (one : Piece). kinds_of (types_of one.batch) ≡ kinds_of c.args.types.now in
    record {
      rows = next_batch l.batches.items c.push.new.self.items c.typed_batch.result piece rest (into_iter_items l.piece-iterator) c.args.pieces.items c.in-Some.ensures.steps.0 c.in_ok-push.ensures.items (no_end piece.end c.if-is_some.ensures) c.typed_batch.ensures.rows l.invariant.rows;
      types = next_typed c.args.types.now l.batches.items c.push.new.self.items c.typed_batch.result c.in_ok-push.ensures.items c.typed_batch.ensures.types l.invariant.types;
      kinds = All-tail K piece rest (subst (All K) c.in-Some.ensures.steps.0 l.invariant.kinds);
    }
