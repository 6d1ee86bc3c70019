use Rattle.aggregate_tests.proofs.TypedLaws.{count_is}
use Rattle.aggregate_tests.proofs.measures.count.Goals as goal

pub returns : goal.returns
returns c = count_is c.args.arg c.args.filter c.requires.arg c.requires.filter
