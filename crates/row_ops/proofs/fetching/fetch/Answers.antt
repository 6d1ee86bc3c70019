use Rattle.std.proofs.Common.{◌∙◌, ◌++◌, List, ap, sym, map}
use Rattle.std.specs.Vec.Iter.{into_iter_items}
use Rattle.batch.specs.declared.batch.Piece.{Piece}
use Rattle.batch.specs.BatchRows.{stream_of_piece, types_of}
use Rattle.plan_pipes.specs.FetchPieces.{fetched_pieces}
use Rattle.row_ops.proofs.WindowLaws.{fetch_more, types_more}
use Rattle.row_ops.proofs.fetching.fetch.Goals as goal

pub loop-piece-preserved : goal.loop-piece-preserved
loop-piece-preserved c =
    let l = c.loop-piece in
    let step = c.in-Some.ensures.steps.0 in
    let rest = into_iter_items c.next.new.self in
    let one = c.in_ok-fetch_piece.field-0 in
    let after = c.saturating_sub-offset.result in
    let left = c.count_left-count.result in (
      ap (λ (all : List Piece). map stream_of_piece all ++ fetched_pieces after left (map stream_of_piece rest)) c.in_ok-push.ensures.items
          ∙ fetch_more l.offset l.count after left l.pieces.items one c.in-Some.piece rest c.in_ok-fetch_piece.ensures.stream c.saturating_sub-offset.ensures c.count_left-count.ensures
          ∙ ap (λ (all : List Piece). map stream_of_piece l.pieces.items ++ fetched_pieces l.offset l.count (map stream_of_piece all)) (sym step)
          ∙ l.invariant.0,
      ap (λ (all : List Piece). map (λ (piece : Piece). types_of piece.batch) all ++ map (λ (piece : Piece). types_of piece.batch) rest) c.in_ok-push.ensures.items
          ∙ types_more l.pieces.items one c.in-Some.piece rest c.in_ok-fetch_piece.ensures.types
          ∙ ap (λ (all : List Piece). map (λ (piece : Piece). types_of piece.batch) l.pieces.items ++ map (λ (piece : Piece). types_of piece.batch) all) (sym step)
          ∙ l.invariant.1,
    )
