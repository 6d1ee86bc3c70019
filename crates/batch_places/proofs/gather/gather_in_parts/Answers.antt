use Rattle.std.proofs.Common.{◌≡◌, ◌∙◌, ◌≤◌, map, rules, arith}
use Rattle.std.proofs.lemmas.List.Elements.{All-push}
use Rattle.std.specs.Slice.Iter.{chunks_rest}
use Rattle.batch.specs.declared.batch.Batch.{Batch}
use Rattle.batch.specs.BatchRows.{types_of}
use Rattle.batch_places.specs.BatchRow.{row_at}
use Rattle.batch_places.proofs.PartLaws.{parts_more, within_first, within_rest}
use Rattle.batch_places.proofs.gather.gather_in_parts.Goals as goal

pub gather-requires : goal.gather-requires
gather-requires c =
    within_first c.args.whole.now.rows c.in-Some.part.now (chunks_rest c.next.new.self) (chunks_rest c.loop-part.part-iterator) c.in-Some.ensures.steps.1.0 c.loop-part.invariant.within

pub loop-part-preserved : goal.loop-part-preserved
loop-part-preserved c =
    let whole = c.args.whole.now in
    let part = c.in-Some.part.now in
    let rest = chunks_rest c.next.new.self in
    let all = chunks_rest c.loop-part.part-iterator in
    let parts = c.in-Some.ensures.steps.1.0 in
    let one = c.in_ok-gather.field-0 in
    let below : one.rows ≤ 65536 = omega (arith, c.in_ok-gather.ensures.count, c.in-Some.ensures.steps.1.1, c.loop-part.invariant.size) in
    record {
      next = search rules;
      ends = tt;
      rows = parts_more whole c.loop-part.batches.items c.push.new.self.items one part rest all (map (row_at whole) c.args.places.now) c.in_ok-push.ensures.items c.in_ok-gather.ensures.rows parts c.loop-part.invariant.rows;
      types = rw c.in_ok-push.ensures.items (All-push (λ batch. types_of batch ≡ types_of whole) c.loop-part.batches.items one c.loop-part.invariant.types c.in_ok-gather.ensures.types);
      few = rw c.in_ok-push.ensures.items (All-push (λ (batch : Batch). batch.rows ≤ 65536) c.loop-part.batches.items one c.loop-part.invariant.few below);
      number = rw c.in_ok-push.ensures.items (All-push (λ (batch : Batch). batch.number ≡ whole.number) c.loop-part.batches.items one c.loop-part.invariant.number c.in_ok-gather.ensures.number);
      within = within_rest whole.rows part rest all parts c.loop-part.invariant.within;
      size = c.in-Some.ensures.steps.0 ∙ c.loop-part.invariant.size;
    }
