use Rattle.std.proofs.Common.{subst}
use Rattle.group_sets.specs.States.{Stands}
use Rattle.group_sets.proofs.FoldLaws.{known_merged_ended, known_merged_many}
use Rattle.group_sets.proofs.merging.known_merged.Goals as goal

pub sets_merged-requires-clause-later : goal.sets_merged-requires-clause-later
sets_merged-requires-clause-later c = subst (Stands c.args.spec.now) c.in-Known.is c.requires.later

pub returns-in-Ended-clause-merged : goal.returns-in-Ended-clause-merged
returns-in-Ended-clause-merged c = rw c.in-Ended.is (known_merged_ended c.args.spec.now c.args.sets c.in-Ended.fault)

pub returns-in-TooMany-clause-merged : goal.returns-in-TooMany-clause-merged
returns-in-TooMany-clause-merged c = rw c.in-TooMany.is (known_merged_many c.args.spec.now c.args.sets)

pub returns-in_ok-both-in-Known-clause-merged : goal.returns-in_ok-both-in-Known-clause-merged
returns-in_ok-both-in-Known-clause-merged c = rw c.in-Known.is c.in_ok-both-in-Known.ensures
