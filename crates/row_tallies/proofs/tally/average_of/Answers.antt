use Rattle.std.proofs.Common.{◌≡◌, ◌∙◌, ◌==◌, if◌then◌else◌, ℤ, pos, false, length, sym, ap, subst, arith}
use Rattle.std.specs.Prelude.{int_div}
use Rattle.std.proofs.lemmas.Bool.Decides.{nat_tests}
use Rattle.eval_values.specs.Number.{IsNumber}
use Rattle.plan_denote.specs.Computed.{null}
use Rattle.plan_denote.specs.Tally.{in_kind, total_of}
use Rattle.row_tallies.specs.Totals.{number_of}
use Rattle.row_tallies.proofs.TotalLaws.{average_is}
use Rattle.row_tallies.proofs.tally.average_of.Goals as goal

pub returns : goal.returns
returns c =
    let exact = int_div (total_of c.args.members.now) (pos (length c.args.members.now)) in
    let some : (length c.args.members.now == 0) ≡ false = grind (arith, nat_tests) in
    let average : number_of c.divided_by-average.result ≡ int_div (total_of c.args.members.now) (pos (length c.args.members.now)) =
    average_is c.total_of.result c.divided_by-average.result (length c.args.members.now) (total_of c.args.members.now) c.total_of.ensures.value c.divided_by-average.ensures.size c.divided_by-average.ensures.sign in
    c.in_kind.ensures exact (subst (λ (z : ℤ). IsNumber c.narrow.result z) average c.narrow.ensures)
    ∙ sym (ap (λ t. if t then null else in_kind c.args.kind exact) some)
