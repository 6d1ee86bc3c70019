use Rattle.std.proofs.Common.{◌∙◌, ◌^◌, ◌+ℤ◌, pos, ap, arith}
use Rattle.std.specs.Prelude.{int_div, int_rem}
use Rattle.std.specs.Int.{w128}
use Rattle.std.proofs.lemmas.Int.{ints, to_z-of_z}
use Rattle.group_tallies.specs.Totals.{number_of_parts}
use Rattle.group_tallies.proofs.RunningLaws.{both_sums, whole_of}
use Rattle.group_tallies.proofs.running.Running.with.Goals as goal

pub returns-clause-total : goal.returns-clause-total
returns-clause-total c =
    let read = to_z-of_z w128 c.args.number c.ranges.number in
    both_sums c.args.self.high c.high_part.result c.args.self.low c.low_part.result (omega arith) (omega arith) (omega arith) (omega arith) (omega (arith, ints))
    ∙ ap (λ z. number_of_parts c.args.self.high c.args.self.low +ℤ z)
    (whole_of c.high_part.result c.low_part.result c.args.number (c.high_part.ensures.value ∙ ap (λ z. int_div z (pos (2 ^ 64))) read) (c.low_part.ensures.value ∙ ap (λ z. int_rem z (pos (2 ^ 64))) read))
