use Rattle.pipe_steps.specs.Tables.{joins_of}
use Rattle.pipe_round_tests.specs.Steps.{AreSteps}
use Rattle.pipe_round_tests.proofs.steps.random_steps.Given as goal

abbrev pub invariant-loop : goal.invariant-loop
invariant-loop l = AreSteps (joins_of l.tables) l.steps.items
