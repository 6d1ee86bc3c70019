-- What both columns come to.
use Rattle.batch.specs.ColumnValues.{values_of}
use Rattle.batch_nodes.specs.Found.{found_values}
use Rattle.batch_calls.proofs.JoinedLaws.{both_known}
use Rattle.batch_calls.proofs.joined.join_all.Goals as goal

pub returns-in-Truth-Never-Never-clause-values : goal.returns-in-Truth-Never-Never-clause-values
returns-in-Truth-Never-Never-clause-values c =
    both_known c.in-Truth-Never-Never.end c.join_known.result c.args.early (values_of c.args.first.now.values) (found_values c.args.rest.now) c.args.first_stop c.args.rest_stop c.in-Truth-Never-Never.is-0 c.in-Truth-Never-Never.is-1 c.in-Truth-Never-Never.is-2 c.join_known.ensures.values
