-- The first so many are made, and their nodes counted.
use Rattle.sub_query.specs.Known.{worths_at}
use Rattle.sub_query.proofs.PartLaws.{AreKeys}
use Rattle.sub_query.proofs.fill_parts.fill_keys.Given as goal

abbrev pub invariant-loop-key : goal.invariant-loop-key
invariant-loop-key l = AreKeys (worths_at l.worths) l.initial.next l.keys l.key-index l.made.items l.next
