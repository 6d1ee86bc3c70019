use Rattle.std.proofs.Common.{◌≡◌, ◌∙◌, ◌==◌, if◌then◌else◌, ℤ, false, sym, ap, subst, arith}
use Rattle.std.proofs.lemmas.Bool.Decides.{nat_tests}
use Rattle.eval_values.specs.Number.{IsNumber}
use Rattle.plan_denote.specs.Computed.{null}
use Rattle.plan_denote.specs.Tally.{in_kind}
use Rattle.group_tallies.specs.Totals.{number_of_parts}
use Rattle.group_tallies.proofs.finals.sum_of.Goals as goal

pub returns : goal.returns
returns c =
    let exact = number_of_parts c.args.running.high c.args.running.low in
    let some : (c.args.running.count == 0) ≡ false = grind (arith, nat_tests) in
    c.in_kind.ensures exact (subst (λ (z : ℤ). IsNumber c.narrow.result z) c.total.ensures.value c.narrow.ensures)
    ∙ sym (ap (λ t. if t then null else in_kind c.args.kind exact) some)
