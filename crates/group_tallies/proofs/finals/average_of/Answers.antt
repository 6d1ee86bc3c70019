use Rattle.std.proofs.Common.{◌≡◌, ◌∙◌, ◌==◌, if◌then◌else◌, ℤ, pos, false, sym, ap, subst, arith}
use Rattle.std.specs.Prelude.{int_div}
use Rattle.std.proofs.lemmas.Bool.Decides.{nat_tests}
use Rattle.eval_values.specs.Number.{IsNumber}
use Rattle.plan_denote.specs.Computed.{null}
use Rattle.plan_denote.specs.Tally.{in_kind}
use Rattle.group_tallies.specs.Totals.{number_of, number_of_parts}
use Rattle.group_tallies.proofs.TotalLaws.{average_is}
use Rattle.group_tallies.proofs.finals.average_of.Goals as goal

pub returns : goal.returns
returns c =
    let total = number_of_parts c.args.running.high c.args.running.low in
    let exact = int_div (number_of_parts c.args.running.high c.args.running.low) (pos c.args.running.count) in
    let some : (c.args.running.count == 0) ≡ false = grind (arith, nat_tests) in
    let average : number_of c.divided_by-average.result ≡ int_div (number_of_parts c.args.running.high c.args.running.low) (pos c.args.running.count) =
    average_is c.total.result c.divided_by-average.result c.args.running.count (number_of_parts c.args.running.high c.args.running.low) c.total.ensures.value c.divided_by-average.ensures.size c.divided_by-average.ensures.sign in
    c.in_kind.ensures exact (subst (λ (z : ℤ). IsNumber c.narrow.result z) average c.narrow.ensures)
    ∙ sym (ap (λ t. if t then null else in_kind c.args.kind exact) some)
