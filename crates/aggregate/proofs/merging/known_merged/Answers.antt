use Rattle.aggregate.proofs.FoldLaws.{known_merged_ended, known_merged_many}
use Rattle.aggregate.proofs.merging.known_merged.Goals as goal

pub returns-in-Ended-clause-merged : goal.returns-in-Ended-clause-merged
returns-in-Ended-clause-merged c = rw c.in-Ended.is (known_merged_ended c.args.spec.now c.args.groups c.in-Ended.fault)

pub returns-in-TooMany-clause-merged : goal.returns-in-TooMany-clause-merged
returns-in-TooMany-clause-merged c = rw c.in-TooMany.is (known_merged_many c.args.spec.now c.args.groups)

pub returns-in_ok-both-in-Known-clause-merged : goal.returns-in_ok-both-in-Known-clause-merged
returns-in_ok-both-in-Known-clause-merged c = rw c.in-Known.is c.in_ok-both-in-Known.ensures
