use Rattle.aggregate_tests.proofs.TypedLaws.{rows_is}
use Rattle.aggregate_tests.proofs.measures.rows.Goals as goal

pub returns : goal.returns
returns c = rows_is c.args.filter c.requires
