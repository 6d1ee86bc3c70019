-- The first so many are made, and their nodes counted.
use Rattle.sub_query.specs.Known.{worths_at}
use Rattle.sub_query.proofs.PartLaws.{AreSetMeasures}
use Rattle.sub_query.proofs.fill_parts.fill_set_measures.Given as goal

abbrev pub invariant-loop-one : goal.invariant-loop-one
invariant-loop-one l = AreSetMeasures (worths_at l.worths) l.initial.next l.measures l.one-index l.made.items l.next
