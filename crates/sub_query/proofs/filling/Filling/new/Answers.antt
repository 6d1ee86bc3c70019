-- Nothing is known yet.
use Rattle.sub_query.proofs.ProgressLaws.{start}
use Rattle.sub_query.proofs.filling.Filling.new.Goals as goal

pub returns-clause-denoted : goal.returns-clause-denoted
returns-clause-denoted c = λ tables. start tables c.args.holed c.new.result.items c.new.ensures.items
