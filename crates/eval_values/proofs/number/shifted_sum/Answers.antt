use Rattle.std.proofs.Common.{pos, FitsSigned, ap, ◌∙◌, arith}
use Rattle.std.specs.Prelude.{int_div, int_rem}
use Rattle.std.specs.Int.{w128}
use Rattle.std.proofs.lemmas.Int.{to_z-of_z}
use Rattle.eval_values.proofs.Exact.{number_along, sum_of_parts}
use Rattle.eval_values.proofs.number.shifted_sum.Goals as goal

pub returns-else-by-eq0 : goal.returns-else-by-eq0
returns-else-by-eq0 c =
    let low = to_z-of_z w128 c.args.low c.ranges.low in
    let tens : FitsSigned w128 c.tenth.result = record { sfits = c.tenth.type_inv } in
    let ones : FitsSigned w128 c.last_digit.result = record { sfits = c.last_digit.type_inv } in
    number_along _ _ _
    (sum_of_parts c.args.high c.args.low _ _ _ c.args.by (omega arith) (to_z-of_z w128 c.args.high c.ranges.high)
    (to_z-of_z w128 _ tens ∙ c.tenth.ensures.value ∙ ap (λ z. int_div z (pos 10)) low)
    (to_z-of_z w128 _ ones ∙ c.last_digit.ensures.value ∙ ap (λ z. int_rem z (pos 10)) low))
    (c.tens_and_ones.ensures _ c.shifted.ensures)
