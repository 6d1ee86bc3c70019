use Rattle.std.proofs.Common.{◌∙◌, sym, rules as given}
use Rattle.std.proofs.Common.{◌≡◌, not}
use Rattle.plan_raw.specs.declared.aggregate.AggregateFunction.{out-AggregateFunction}
use Rattle.plan_verdict.specs.Aggregates.{is_supported_form}
use Rattle.plan_verdict.specs.Lists.{is_empty}
use Rattle.check_exprs.proofs.CheckedLaws.{function_form}
use Rattle.check_groups.proofs.measure.is_supported.Goals as goal

pub returns : goal.returns
returns c terms =
    let one = out-AggregateFunction c.args.function.now in
    let form : c.is_supported_form.result ≡ is_supported_form (not (is_empty one.sorts)) one.phase one.invocation = search given in
    form ∙ sym (function_form terms c.args.function.now)
