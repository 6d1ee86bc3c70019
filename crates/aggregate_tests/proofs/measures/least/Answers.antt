use Rattle.aggregate_tests.proofs.TypedLaws.{least_is}
use Rattle.aggregate_tests.proofs.measures.least.Goals as goal

pub returns : goal.returns
returns c = least_is c.args.arg c.args.filter c.requires.arg c.requires.filter
