use Rattle.std.proofs.Common.{subst}
use Rattle.run_core.specs.Machine.{IsOver}
use Rattle.run_core.specs.Receipts.{IsBalanced}
use Rattle.run_core.specs.Ready.{Ready}
use Rattle.run_core.proofs.Runs.{over_balanced}
use Rattle.run_core.proofs.run.Run.receipts.Goals as goal

pub returns-clause-balanced : goal.returns-clause-balanced
returns-clause-balanced c =
    subst (λ (r : Ready). IsOver r.machine → IsBalanced r.machine.count r.machine.receipts r.machine.queue) c.self.view_is (over_balanced _ c.self.invariant.kept)
