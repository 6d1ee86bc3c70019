-- The choices so far, and what is to come.
use Rattle.batch_nodes.specs.Chosen.{other_than, marked}
use Rattle.batch_nodes.specs.Found.{found_values}
use Rattle.batch_nodes.proofs.JoinLaws.{IsJoinSoFar}
use Rattle.batch_nodes.proofs.choices.decide.Given as goal

abbrev pub invariant-loop-i : goal.invariant-loop-i
invariant-loop-i l = IsJoinSoFar (other_than l.none) (marked l.none l.number) l.rows l.choices l.stop (found_values l.tests) l.tests_stop l.i l.used l.decided.items
