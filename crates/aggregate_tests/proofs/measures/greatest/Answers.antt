use Rattle.aggregate_tests.proofs.TypedLaws.{greatest_is}
use Rattle.aggregate_tests.proofs.measures.greatest.Goals as goal

pub returns : goal.returns
returns c = greatest_is c.args.arg c.args.filter c.requires.arg c.requires.filter
