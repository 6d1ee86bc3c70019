use Rattle.std.proofs.Common.{subst}
use Rattle.batch.specs.BatchRows.{stream_of_piece}
use Rattle.group_sets.specs.States.{Stands, entries_by}
use Rattle.group_sets.proofs.FoldLaws.{ended_stays}
use Rattle.group_sets.proofs.folding.folded.Goals as goal

pub known_folded-requires-clause-stands : goal.known_folded-requires-clause-stands
known_folded-requires-clause-stands c = subst (Stands c.args.spec.now) c.in-Known.is c.requires.stands

pub returns-in-Ended-clause-together : goal.returns-in-Ended-clause-together
returns-in-Ended-clause-together c = rw c.in-Ended.is (ended_stays c.args.spec.now (entries_by c.args.spec.now (stream_of_piece c.args.input.now)) c.in-Ended.fault)

pub returns-in_ok-next-in-TooMany-clause-together : goal.returns-in_ok-next-in-TooMany-clause-together
returns-in_ok-next-in-TooMany-clause-together c = rw c.in-TooMany.is c.in_ok-next-in-TooMany.ensures.together

pub returns-in_ok-next-in-Known-clause-together : goal.returns-in_ok-next-in-Known-clause-together
returns-in_ok-next-in-Known-clause-together c = rw c.in-Known.is c.in_ok-next-in-Known.ensures.together
