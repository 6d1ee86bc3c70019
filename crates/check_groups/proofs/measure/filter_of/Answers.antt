use Rattle.std.proofs.Common.{rules as given, ap}
use Rattle.std.specs.Option.{option_map}
use Rattle.plan_verdict.specs.Rels.{over}
use Rattle.plan_verdict.specs.Verdict.{checked_expr}
use Rattle.check_exprs.proofs.StepLaws.{maybe_accepted, maybe_refused}
use Rattle.check_groups.proofs.measure.filter_of.Goals as goal

pub returns-in_err-kept-in-Some : goal.returns-in_err-kept-in-Some
returns-in_err-kept-in-Some g c =
    let checked = checked_expr c.args.terms.now in
    let p = c.args.progress in
    let refused = maybe_refused (over c.args.number c.args.columns.now) p p p p (option_map checked c.args.filter.now) _ c.in_err-kept-in-Some.field-0.0 (ap (option_map checked) c.in-Some.is) c.in_err-kept-in-Some.ensures in
    search given

pub returns-in_ok-kept-in-Some : goal.returns-in_ok-kept-in-Some
returns-in_ok-kept-in-Some g c =
    let checked = checked_expr c.args.terms.now in
    let p = c.args.progress in
    let after = c.in_ok-kept-in-Some.progress in
    maybe_accepted (over c.args.number c.args.columns.now) p after after after (option_map checked c.args.filter.now) _ c.in_ok-kept-in-Some.kept (ap (option_map checked) c.in-Some.is) c.in_ok-kept-in-Some.ensures
