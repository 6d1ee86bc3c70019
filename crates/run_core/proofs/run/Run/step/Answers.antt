use Rattle.std.proofs.Common.{arith}
use Rattle.run_core.proofs.Runs.{does_keeps}
use Rattle.run_core.proofs.run.Run.step.Goals as goal

pub invariant_of-self : goal.invariant_of-self
invariant_of-self c = record { kept = does_keeps _ _ _ _ c.step-done.ensures.done c.self.invariant.kept; room = λ some. absurd (omega arith) }

pub invariant_of-self-else-done : goal.invariant_of-self-else-done
invariant_of-self-else-done c = record { kept = does_keeps _ _ _ _ c.step-done.ensures.done c.self.invariant.kept; room = λ some. c.if-done.ensures.refused }
