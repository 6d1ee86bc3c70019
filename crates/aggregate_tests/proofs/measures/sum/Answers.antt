use Rattle.aggregate_tests.proofs.TypedLaws.{sum_is}
use Rattle.aggregate_tests.proofs.measures.sum.Goals as goal

pub returns : goal.returns
returns c = sum_is c.args.arg c.args.filter c.requires.arg c.requires.filter
