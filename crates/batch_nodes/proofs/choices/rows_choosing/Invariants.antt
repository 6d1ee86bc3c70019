-- The rows left open so far, and what is to come.
use Rattle.batch_nodes.specs.Chosen.{other_than}
use Rattle.batch_nodes.proofs.OpenLaws.{IsOpenSoFar}
use Rattle.batch_nodes.proofs.choices.rows_choosing.Given as goal

abbrev pub invariant-loop-i : goal.invariant-loop-i
invariant-loop-i l = IsOpenSoFar (other_than l.choice) l.rows l.choices l.i l.left.items
