use Rattle.std.proofs.Common.{◌≡◌, length, arith, subst}
use Rattle.std.specs.List.{All}
use Rattle.std.specs.Vec.Iter.{into_iter_items}
use Rattle.std.proofs.lemmas.List.Elements.{All-head, All-tail}
use Rattle.batch.specs.declared.batch.Piece.{Piece}
use Rattle.pipe_parts.specs.Parts.{IsPart}
use Rattle.pipe_steps.specs.Behind.{IsStored}
use Rattle.pipe_work.specs.Pipe.{StepsSeen}
use Rattle.pipe_work.proofs.KeptLaws.{over_piece, so_far_more, so_far_whole, types_behind}
use Rattle.pipe_work.proofs.keeping.parts_of.Goals as goal

pub part_of-requires : goal.part_of-requires
part_of-requires c =
    let l = c.loop-piece in
    let piece = c.in-Some.piece in
    let rest = into_iter_items c.next.new.self in
    let P : Piece → Type 0 = IsStored (types_behind c.args.pipe.now) in
    let own : P piece = All-head P piece rest (subst (All P) c.in-Some.ensures.steps.0 l.invariant.stored) in
    record { over = over_piece _ c.args.pipe.now piece c.pipe.view_is c.pipe.invariant.1 own; fit = own.fit }

pub loop-piece-preserved : goal.loop-piece-preserved
loop-piece-preserved c =
    let l = c.loop-piece in
    let piece = c.in-Some.piece in
    let rest = into_iter_items c.next.new.self in
    let step = c.in-Some.ensures.steps.0 in
    let P : Piece → Type 0 = IsStored (types_behind c.args.pipe.now) in
    let part = c.in_ok-part.part in
    record {
      parts = so_far_more c.args.pipe.now.breaker c.args.pieces.items l.parts.items _ piece part (into_iter_items l.piece-iterator) rest step c.in_ok-push.ensures.items
          (subst (λ (way : StepsSeen). IsPart way.breaker piece part) c.pipe.view_is c.in_ok-part.ensures) l.invariant.parts;
      stored = All-tail P piece rest (subst (All P) step l.invariant.stored);
    }

pub returns : goal.returns
returns c =
    let l = c.loop-piece in
    let left = into_iter_items l.piece-iterator in
    let none : length left ≡ 0 = omega (arith, c.in-None.ensures.steps.0) in
    so_far_whole c.args.pipe.now.breaker c.args.pieces.items l.parts.items left none l.invariant.parts
