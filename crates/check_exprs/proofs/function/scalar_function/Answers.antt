use Rattle.std.proofs.Common.{rules as given, map}
use Rattle.plan_verdict.specs.Rels.{over}
use Rattle.plan_verdict.specs.Verdict.{checked_argument}
use Rattle.check_exprs.proofs.CallLaws.{call_refused, call_found}
use Rattle.check_exprs.proofs.function.scalar_function.Goals as goal

pub returns-in_err-call : goal.returns-in_err-call
returns-in_err-call g c =
    let p = c.args.progress in
    let refused = call_refused c.args.terms.now (over c.args.relation c.args.columns.now) c.args.reference c.args.output.now (map (checked_argument c.args.terms.now) c.args.written.now) c.args.options.now p p c.in_err-call.field-0.0 c.in_err-call.ensures in
    search given

pub returns : goal.returns
returns g c =
    call_found c.args.terms.now (over c.args.relation c.args.columns.now) c.args.reference c.args.output.now (map (checked_argument c.args.terms.now) c.args.written.now) c.args.options.now c.args.progress c.in_ok-call.progress
    (c.in_ok-call.call, c.in_ok-call.args) c.in_ok-call.ensures
