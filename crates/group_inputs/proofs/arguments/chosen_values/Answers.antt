use Rattle.std.proofs.Common.{◌∙◌, ◌<◌, length, sym, subst, arith}
use Rattle.std.specs.List.{All, range_with_len}
use Rattle.batch.specs.Column.{column_values}
use Rattle.group_inputs.proofs.UntilLaws.{all_below}
use Rattle.group_inputs.proofs.ChosenLaws.{all_places, chosen_found}
use Rattle.group_inputs.proofs.arguments.chosen_values.Goals as goal

pub eval_rows-requires-clause-exist : goal.eval_rows-requires-clause-exist
eval_rows-requires-clause-exist c =
    let tests = column_values c.args.tests.now in
    let below = all_below (length tests) c.args.batch.now.rows (omega (arith, c.requires.tests.long, c.requires.few)) in
    subst (All (λ row. row < c.args.batch.now.rows)) (sym (c.listed.ensures ∙ c.as_slice.ensures.value ∙ c.in_ok-places.ensures)) (all_places (λ row. row < c.args.batch.now.rows) (range_with_len 0 (length tests)) tests below)

pub returns : goal.returns
returns c =
    chosen_found c.args.arg.now c.args.batch.now c.args.tests.now c.args.tested _ c.listed.result _ c.in_ok-found.found c.in_ok-found.stop c.in_ok-column.column c.requires.tests
    (c.listed.ensures ∙ c.as_slice.ensures.value ∙ c.in_ok-places.ensures) c.in_ok-found.ensures c.in_ok-column.ensures.values c.before_stop-after.ensures
