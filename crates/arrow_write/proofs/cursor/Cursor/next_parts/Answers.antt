use Rattle.std.proofs.Common.{◌≡◌, ◌+◌, ◌∙◌, ap, subst, sym, arith}
use Rattle.std.specs.List.{All, sum_by}
use Rattle.std.proofs.lemmas.List.Elements.{All-push}
use Rattle.arrow_write.specs.Cut.{IsPartOf, rows_of_part, rows_before, Follow}
use Rattle.arrow_write.proofs.CutLaws.{Follow-push, rows_of_parts-push}
use Rattle.arrow_write.proofs.cursor.Cursor.next_parts.Goals as goal

pub loop-left-preserved : goal.loop-left-preserved
loop-left-preserved c =
    let batches = c.args.batches.now in
    let place = rows_before batches c.args.self.now in
    let parts = c.loop-left.parts.items in
    let part = c.next_part-part.result in
    let pushed = c.in_ok-push.ensures.items in
    let so_far = c.loop-left.invariant in
    let part_is = c.next_part-part.ensures in
    let sum : sum_by rows_of_part c.push.new.self.items ≡ sum_by rows_of_part parts + rows_of_part part = ap (sum_by rows_of_part) pushed ∙ rows_of_parts-push parts part in
    record {
      follow = subst (Follow batches place) (sym pushed) (Follow-push batches place parts part so_far.follow (omega (arith, part_is.begins, so_far.moved, so_far.so_far)));
      so_far = omega (arith, sum, so_far.so_far, part_is.few);
      moved = omega (arith, part_is.moved, so_far.moved, part_is.few);
      lie = subst (All (IsPartOf batches)) (sym pushed) (All-push (IsPartOf batches) parts part so_far.lie part_is.lies);
      inside = part_is.inside;
    }
