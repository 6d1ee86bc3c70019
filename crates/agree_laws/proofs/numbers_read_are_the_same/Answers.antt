use Rattle.agree_laws.proofs.OrderLaws.{law_of_order}
use Rattle.agree_laws.proofs.numbers_read_are_the_same.Goals as goal

pub returns : goal.returns
returns c = law_of_order
