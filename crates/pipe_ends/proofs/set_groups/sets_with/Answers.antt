use Rattle.std.proofs.Common.{◌≡◌, ◌∙◌, sym, ap, ℕ, ◌==◌, ◌<◌, ◌+◌, ◌&&◌, List, get_or, length, take, arith}
use Rattle.std.specs.List.{list_all}
use Rattle.std.proofs.lemmas.Bool.{eq-eqb}
use Rattle.std.proofs.lemmas.List.{get_or-replicate, length-replicate}
use Rattle.std.proofs.lemmas.List.Folds.{list_all_more}
use Rattle.well_typed.specs.Columns.{has_place}
use Rattle.pipe_ends.specs.Counts.{counted}
use Rattle.pipe_ends.proofs.CountLaws.{counted_more}
use Rattle.pipe_ends.proofs.set_groups.sets_with.Goals as goal

pub loop-number-init : goal.loop-number-init
loop-number-init c = record {
  len = ap length c.in_ok-held.ensures ∙ length-replicate c.args.count 0;
  all = λ k below.
      let none : get_or c.in_ok-held.held.items k 0 ≡ 0 = ap (λ held. get_or held k 0) c.in_ok-held.ensures ∙ get_or-replicate c.args.count k 0 0 below in
      (omega arith, eq-eqb (get_or c.in_ok-held.held.items k 0) 0 none);
}

pub loop-number-preserved : goal.loop-number-preserved
loop-number-preserved c =
    let set = c.index-sets-number.result in
    let sets = c.args.sets.now in
    let number = c.loop-number.number in
    let held = c.loop-number.held.items in
    record {
      len = omega (arith, c.count_set.ensures.len);
      all = λ k below.
          let here : k < length held = omega (arith, c.loop-number.invariant.len) in
          let so_far = c.loop-number.invariant.all k below in
          let more = counted_more number (get_or held k 0) (list_all (has_place k) (take number sets)) (has_place k set) so_far.0 so_far.1 in
          let count = c.count_set.ensures.counts k here ∙ ap (λ (places : List ℕ). counted number (get_or held k 0) (has_place k places)) c.as_slice.ensures in
          let each = list_all_more (has_place k) sets number set c.loop-number-test.true ∙ ap (λ (places : List ℕ). list_all (has_place k) (take number sets) && has_place k places) (sym c.index-sets-number.is) in
          (omega (arith, count, more.0), ap (λ new. new == number + 1) count ∙ more.1 ∙ sym each);
    }
