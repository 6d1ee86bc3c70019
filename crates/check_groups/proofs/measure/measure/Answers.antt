use Rattle.std.proofs.Common.{sym, subst}
use Rattle.plan_typed.specs.declared.rel.SetMeasure.{SetMeasure}
use Rattle.plan_verdict.specs.Checking.{Checking, Comes}
use Rattle.plan_verdict.specs.Meaning.{Scope}
use Rattle.plan_verdict.specs.Rels.{over}
use Rattle.plan_verdict.proofs.FoldLaws.{checked_measure-out}
use Rattle.check_groups.proofs.measure.measure.Goals as goal

pub returns : goal.returns
returns g c = subst (λ (check : Scope → Checking SetMeasure). Comes c.measure_of.result (check (over c.args.number c.args.columns.now) c.args.progress)) (sym (checked_measure-out c.args.terms.now c.args.written.now)) c.measure_of.ensures
