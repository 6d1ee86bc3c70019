-- The first so many are made, and their nodes counted.
use Rattle.sub_query.specs.Known.{worths_at}
use Rattle.sub_query.proofs.PartLaws.{AreRows}
use Rattle.sub_query.proofs.fill_parts.fill_rows.Given as goal

abbrev pub invariant-loop-row : goal.invariant-loop-row
invariant-loop-row l = AreRows (worths_at l.worths) l.initial.next l.rows l.row-index l.made.items l.next
