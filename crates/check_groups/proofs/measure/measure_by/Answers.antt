use Rattle.std.proofs.Common.{◌≡◌, ◌∙◌, sym, subst, true, false, Bool, rules as given}
use Rattle.std.specs.Option.{option_map}
use Rattle.plan_verdict.specs.declared.rule.Rule.TheVariants as rules
use Rattle.plan_verdict.specs.Checking.{Comes, part}
use Rattle.plan_verdict.specs.Rels.{over}
use Rattle.plan_verdict.specs.Verdict.{checked_expr, checked_function}
use Rattle.check_groups.specs.Measures.{set_measure}
use Rattle.check_exprs.proofs.LevelLaws.{refused_comes}
use Rattle.check_groups.proofs.MeasureLaws.{measure_unsupported, measure_filter_refused, measure_call_refused, measure_finished}
use Rattle.check_groups.proofs.measure.measure_by.Goals as goal

pub returns-then-not-is_supported : goal.returns-then-not-is_supported
returns-then-not-is_supported g c =
    let terms = c.args.terms.now in
    let scope = over c.args.number c.args.columns.now in
    let p = c.args.progress in
    let test : c.is_supported.result ≡ false = search given in
    refused_comes c.args.number rules.UnsupportedForm c.refuse.result _ c.refuse.ensures
    (measure_unsupported scope p p p p (checked_function terms c.args.function.now) (option_map (checked_expr terms) c.args.filter.now) (sym (c.is_supported.ensures terms) ∙ test))

pub returns-in_err-kept : goal.returns-in_err-kept
returns-in_err-kept g c =
    let terms = c.args.terms.now in
    let scope = over c.args.number c.args.columns.now in
    let p = c.args.progress in
    let test : c.is_supported.result ≡ true = search given in
    let refused = measure_filter_refused scope p p p p (checked_function terms c.args.function.now) (option_map (checked_expr terms) c.args.filter.now) c.in_err-kept.field-0.0 (sym (c.is_supported.ensures terms) ∙ test) c.in_err-kept.ensures in
    search given

pub returns-in_err-measure : goal.returns-in_err-measure
returns-in_err-measure g c =
    let terms = c.args.terms.now in
    let scope = over c.args.number c.args.columns.now in
    let p = c.in_ok-kept.progress in
    let test : c.is_supported.result ≡ true = search given in
    let refused = measure_call_refused scope c.args.progress p p p (checked_function terms c.args.function.now) (option_map (checked_expr terms) c.args.filter.now) c.in_ok-kept.kept c.in_err-measure.field-0.0
    (sym (c.is_supported.ensures terms) ∙ test) c.in_ok-kept.ensures c.in_err-measure.ensures in
    search given

pub returns : goal.returns
returns g c =
    let terms = c.args.terms.now in
    let scope = over c.args.number c.args.columns.now in
    let function = checked_function terms c.args.function.now in
    let measure = c.in_ok-measure.measure in
    let p = c.in_ok-measure.progress in
    let test : c.is_supported.result ≡ true = search given in
    measure_finished scope c.args.progress c.in_ok-kept.progress p p function (option_map (checked_expr terms) c.args.filter.now) c.in_ok-kept.kept measure _
    (sym (c.is_supported.ensures terms) ∙ test) c.in_ok-kept.ensures c.in_ok-measure.ensures
    (subst (λ (distinct : Bool). Comes c.part.result (part c.args.number (set_measure measure distinct) p)) (c.is_distinct.ensures terms) (c.part.ensures c.args.number (set_measure measure c.is_distinct.result) c.set_measure.ensures))
