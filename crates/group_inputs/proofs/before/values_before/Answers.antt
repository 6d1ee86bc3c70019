use Rattle.std.proofs.Common.{◌<◌, sym, subst}
use Rattle.std.specs.List.{All}
use Rattle.group_inputs.proofs.UntilLaws.{all_below, column_found}
use Rattle.group_inputs.proofs.before.values_before.Goals as goal

pub eval_rows-requires-clause-exist : goal.eval_rows-requires-clause-exist
eval_rows-requires-clause-exist c = subst (All (λ row. row < c.args.batch.now.rows)) (sym c.all.ensures) (all_below c.args.before.rows c.args.batch.now.rows c.requires.few)

pub returns-clause-column : goal.returns-clause-column
returns-clause-column c =
    column_found c.args.expr.now c.args.batch.now c.args.before _ c.all.result _ c.in_ok-found.found c.in_ok-found.stop c.in_ok-column.column c.all.ensures c.in_ok-found.ensures c.in_ok-column.ensures.values c.len.ensures c.kind_or.ensures
