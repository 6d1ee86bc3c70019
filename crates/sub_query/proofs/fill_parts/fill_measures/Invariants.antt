-- The first so many are made, and their nodes counted.
use Rattle.sub_query.specs.Known.{worths_at}
use Rattle.sub_query.proofs.PartLaws.{AreMeasures}
use Rattle.sub_query.proofs.fill_parts.fill_measures.Given as goal

abbrev pub invariant-loop-measure : goal.invariant-loop-measure
invariant-loop-measure l = AreMeasures (worths_at l.worths) l.initial.next l.measures l.measure-index l.made.items l.next
