use Rattle.std.proofs.Common.{sym, subst}
use Rattle.group_sets.specs.Folding.{AreMerged}
use Rattle.group_sets.specs.States.{Stands}
use Rattle.group_sets.specs.declared.state.State.TheVariants as states
use Rattle.group_sets.proofs.FoldLaws.{ended_merged, many_merged_with}
use Rattle.group_sets.proofs.merging.merged.Goals as goal

pub known_merged-requires-clause-stands : goal.known_merged-requires-clause-stands
known_merged-requires-clause-stands c = subst (Stands c.args.spec.now) c.in-Known.is c.requires.stands

pub returns-in-Ended-clause-merged : goal.returns-in-Ended-clause-merged
returns-in-Ended-clause-merged c = rw c.in-Ended.is (ended_merged c.args.spec.now c.args.later c.in-Ended.fault)

pub returns-in_ok-both-in-TooMany-clause-merged : goal.returns-in_ok-both-in-TooMany-clause-merged
returns-in_ok-both-in-TooMany-clause-merged c =
    rw c.in-TooMany.is (subst (AreMerged c.args.spec.now states.TooMany c.args.later) (sym c.in_ok-both-in-TooMany.ensures.both) (many_merged_with c.args.spec.now c.args.later))

pub returns-in_ok-both-in-Known-clause-merged : goal.returns-in_ok-both-in-Known-clause-merged
returns-in_ok-both-in-Known-clause-merged c = rw c.in-Known.is c.in_ok-both-in-Known.ensures.merged
