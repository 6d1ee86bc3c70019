use Rattle.std.proofs.Common.{false}
use Rattle.plan_verdict.specs.Verdict.{verdict}
use Rattle.plan_verdict.proofs.VerdictLaw.{answer_is_well_typed_alone}
use Rattle.plan_check.proofs.plan.check.Goals as goal

pub returns-clause-verdict : goal.returns-clause-verdict
returns-clause-verdict c = c.typed_alone_of.ensures (verdict false c.args.tree.now) c.verdict_on.ensures

pub returns-clause-typed : goal.returns-clause-typed
returns-clause-typed c = answer_is_well_typed_alone c.args.tree.now c.typed_alone_of.result (c.typed_alone_of.ensures (verdict false c.args.tree.now) c.verdict_on.ensures)
