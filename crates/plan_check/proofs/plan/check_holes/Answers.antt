use Rattle.std.proofs.Common.{true}
use Rattle.plan_verdict.proofs.VerdictLaw.{answer_is_well_typed}
use Rattle.plan_check.proofs.plan.check_holes.Goals as goal

pub returns-clause-typed : goal.returns-clause-typed
returns-clause-typed c = answer_is_well_typed true c.args.tree.now c.verdict_on.result c.verdict_on.ensures
