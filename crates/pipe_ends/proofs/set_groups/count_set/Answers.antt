use Rattle.std.proofs.Common.{◌∙◌, sym, ap, ◌==◌, ◌<◌, get_or, length, take, arith}
use Rattle.std.specs.List.{list_any}
use Rattle.std.proofs.lemmas.List.Folds.{list_any_more}
use Rattle.pipe_ends.specs.Counts.{counted}
use Rattle.pipe_ends.proofs.CountLaws.{counted_twice}
use Rattle.pipe_ends.proofs.set_groups.count_set.Goals as goal

pub loop-one-preserved : goal.loop-one-preserved
loop-one-preserved c = record {
  len = omega (arith, c.count_place.ensures.len);
  counts = λ k below.
      let place = get_or c.args.set.now c.loop-one.one-index 0 in
      let count = get_or c.args.held.now.items k 0 in
      let before = list_any (λ one. one == k) (take c.loop-one.one-index c.args.set.now) in
      let here : k < length c.loop-one.held.items = omega (arith, c.loop-one.invariant.len) in
      c.count_place.ensures.counts k here
      ∙ ap (λ so_far. counted c.args.number so_far (place == k)) (c.loop-one.invariant.counts k below)
      ∙ counted_twice c.args.number count before (place == k)
      ∙ ap (counted c.args.number count) (sym (list_any_more (λ one. one == k) c.args.set.now c.loop-one.one-index 0 c.loop-one-test.true));
}
