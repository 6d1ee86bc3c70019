use Rattle.std.proofs.Common.{◌∙◌, ◌<◌, ℕ, List, ap, sym, subst, length, arith}
use Rattle.std.specs.List.{All, range_with_len}
use Rattle.sub_types.specs.declared.value.Value.{Value}
use Rattle.batch_nodes.specs.Evaluated.{eval_at}
use Rattle.kernels.specs.Until.{until}
use Rattle.row_ops.specs.Stepped.{chosen_by}
use Rattle.row_ops.proofs.PlaceLaws.{all_below, chosen_until}
use Rattle.row_ops.proofs.filtering.places_of.Goals as goal

pub eval_rows-requires-clause-exist : goal.eval_rows-requires-clause-exist
eval_rows-requires-clause-exist c = subst (All (λ row. row < c.args.batch.now.rows)) (sym c.all-rows.ensures) (all_below c.args.batch.now.rows c.args.batch.now.rows (omega arith))

pub returns-clause-places : goal.returns-clause-places
returns-clause-places c =
    let n = c.args.batch.now.rows in
    let f = eval_at c.args.condition.now c.args.batch.now in
    let values = c.in_ok-tests.ensures.values ∙ c.in_ok-found.ensures.values ∙ ap (λ (rows : List ℕ). (until f rows).values) c.all-rows.ensures in
    c.in_ok-true_places.ensures ∙ ap (λ (tests : List Value). chosen_by (range_with_len 0 (length tests)) tests) values ∙ chosen_until f n
