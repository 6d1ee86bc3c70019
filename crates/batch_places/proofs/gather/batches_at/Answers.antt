use Rattle.std.proofs.Common.{◌≡◌, ◌∙◌, ◌≤◌, map, rules, arith}
use Rattle.std.proofs.lemmas.List.Elements.{All-push}
use Rattle.std.specs.Slice.Iter.{chunks_rest}
use Rattle.batch.specs.declared.batch.Batch.{Batch}
use Rattle.batch.specs.BatchRows.{types_of}
use Rattle.batch_places.specs.Places.{row_there}
use Rattle.batch_places.proofs.PlaceLaws.{batches_more, there_first, there_rest}
use Rattle.batch_places.proofs.gather.batches_at.Goals as goal

pub batch_at-requires-clause-there : goal.batch_at-requires-clause-there
batch_at-requires-clause-there c =
    there_first c.args.runs.now c.in-Some.part.now (chunks_rest c.next.new.self) (chunks_rest c.loop-part.part-iterator) c.in-Some.ensures.steps.1.0 c.loop-part.invariant.there

pub loop-part-preserved : goal.loop-part-preserved
loop-part-preserved c =
    let runs = c.args.runs.now in
    let part = c.in-Some.part.now in
    let rest = chunks_rest c.next.new.self in
    let all = chunks_rest c.loop-part.part-iterator in
    let parts = c.in-Some.ensures.steps.1.0 in
    let below : c.in_ok-batch_at.field-0.rows ≤ 65536 = omega (arith, c.in_ok-batch_at.ensures.count, c.in-Some.ensures.steps.1.1, c.loop-part.invariant.size) in
    record {
      next = search rules;
      ends = tt;
      rows = batches_more runs c.loop-part.batches.items c.push.new.self.items c.in_ok-batch_at.field-0 part rest all (map (row_there runs) c.args.places.now) c.in_ok-push.ensures.items c.in_ok-batch_at.ensures.rows parts c.loop-part.invariant.rows;
      types = rw c.in_ok-push.ensures.items (All-push (λ batch. types_of batch ≡ types_of c.args.first.now) c.loop-part.batches.items c.in_ok-batch_at.field-0 c.loop-part.invariant.types c.in_ok-batch_at.ensures.types);
      few = rw c.in_ok-push.ensures.items (All-push (λ (batch : Batch). batch.rows ≤ 65536) c.loop-part.batches.items c.in_ok-batch_at.field-0 c.loop-part.invariant.few below);
      number = rw c.in_ok-push.ensures.items (All-push (λ (batch : Batch). batch.number ≡ 0) c.loop-part.batches.items c.in_ok-batch_at.field-0 c.loop-part.invariant.number c.in_ok-batch_at.ensures.number);
      there = there_rest runs part rest all parts c.loop-part.invariant.there;
      size = c.in-Some.ensures.steps.0 ∙ c.loop-part.invariant.size;
    }
