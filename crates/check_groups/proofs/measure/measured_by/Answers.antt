use Rattle.std.proofs.Common.{◌∙◌, ap, sym, subst, rules as given, map, List, Result, Ok}
use Rattle.plan_typed.specs.declared.expr.Expr.{Expr}
use Rattle.plan_verdict.specs.declared.call.Call.{Call}
use Rattle.plan_verdict.specs.declared.progress.Progress.{Progress}
use Rattle.plan_verdict.specs.declared.rule.CheckError.{CheckError}
use Rattle.func_table.specs.declared.row.Class.TheVariants as classes
use Rattle.plan_verdict.specs.Checking.{Comes}
use Rattle.plan_verdict.specs.Rels.{over}
use Rattle.plan_verdict.specs.Verdict.{checked_argument}
use Rattle.check_exprs.specs.Parts.{called}
use Rattle.check_exprs.proofs.StepLaws.{came}
use Rattle.check_groups.proofs.MeasureLaws.{called_refused, called_found}
use Rattle.check_groups.proofs.measure.measured_by.Goals as goal

pub returns-in_err-filter : goal.returns-in_err-filter
returns-in_err-filter g c =
    let terms = c.args.terms.now in
    let scope = over c.args.number c.args.columns.now in
    let written = map (checked_argument terms) c.args.written.now in
    let p = c.args.progress in
    let error = c.in_err-filter.field-0.0 in
    let refused = called_refused terms c.args.reference c.args.output.now written c.args.options.now scope c.args.kept p p error
    (subst (λ (found : Result ((Call × List Expr) × Progress) CheckError). Comes found (called terms scope classes.Aggregate c.args.reference c.args.output.now written c.args.options.now p)) c.in_err-filter.ensures.error c.called-called.ensures) in
    search given

pub returns : goal.returns
returns g c =
    let terms = c.args.terms.now in
    let scope = over c.args.number c.args.columns.now in
    let written = map (checked_argument terms) c.args.written.now in
    let call = c.in_ok-filter.call in
    let args = c.in_ok-filter.args in
    let after = c.in_ok-filter.progress in
    called_found terms c.args.reference c.args.output.now written c.args.options.now scope c.args.kept c.args.progress after (call, args)
    (came c.called-called.result ((call, args), after) (called terms scope classes.Aggregate c.args.reference c.args.output.now written c.args.options.now c.args.progress) c.in_ok-filter.ensures.found c.called-called.ensures)
    ∙ ap (λ arg. Ok (record { func = call.func; arg = arg; filter = c.args.kept; ty = call.ty }, after)) (sym c.first_of.ensures)
    ∙ ap (λ filter. Ok (record { func = call.func; arg = c.first_of.result; filter = filter; ty = call.ty }, after)) (sym c.in_ok-filter.ensures.value)
