use Rattle.std.proofs.Common.{◌∙◌, ◌<◌, ap, sym, subst, length, arith}
use Rattle.std.specs.List.{All, range_with_len}
use Rattle.std.proofs.lemmas.List.FromFn.{length-range_with_len}
use Rattle.batch_nodes.specs.Evaluated.{evaluated}
use Rattle.row_ops.proofs.PlaceLaws.{all_below, chosen_all, chosen_whole, filter_stream}
use Rattle.row_ops.proofs.filtering.filter.Goals as goal

pub at_places-requires-clause-exist : goal.at_places-requires-clause-exist
at_places-requires-clause-exist c =
    let n = c.args.input.batch.rows in
    let out = evaluated c.args.condition.now c.args.input.batch (range_with_len 0 n) in
    subst (All (λ row. row < n)) (sym (c.deref.ensures.value ∙ c.in_ok-places.ensures.places)) (chosen_all (λ row. row < n) (range_with_len 0 n) out.values (all_below n n (omega arith)))

pub at_places-requires-clause-all : goal.at_places-requires-clause-all
at_places-requires-clause-all c = λ many.
    let n = c.args.input.batch.rows in
    let out = evaluated c.args.condition.now c.args.input.batch (range_with_len 0 n) in
    let is = c.deref.ensures.value ∙ c.in_ok-places.ensures.places in
    is ∙ chosen_whole (range_with_len 0 n) out.values (sym (ap length is) ∙ many ∙ sym (length-range_with_len 0 n))

pub returns-clause-stream : goal.returns-clause-stream
returns-clause-stream c =
    filter_stream c.args.relation c.args.condition.now c.args.input.batch c.args.input.end c.deref.result.now c.in_ok-places.stop c.in_ok-batch.batch c.end_after.result
    (c.deref.ensures.value ∙ c.in_ok-places.ensures.places) c.in_ok-places.ensures.stop c.in_ok-batch.ensures.rows c.end_after.ensures
