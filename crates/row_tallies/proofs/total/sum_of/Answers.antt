use Rattle.std.proofs.Common.{◌≡◌, ◌∙◌, ◌+◌, ◌^◌, drop, pos, ◌+ℤ◌, ◌*ℤ◌, FitsSigned, sym, ap, arith}
use Rattle.std.specs.Prelude.{int_div, int_rem}
use Rattle.std.specs.Int.{w128}
use Rattle.std.proofs.lemmas.Int.{ints, quot-rem, to_z-of_z}
use Rattle.std.proofs.lemmas.List.{at_drop_more}
use Rattle.plan_denote.specs.Order.{number_in}
use Rattle.plan_denote.specs.Tally.{total_of}
use Rattle.row_tallies.proofs.total.sum_of.Goals as goal

pub loop-value-preserved : goal.loop-value-preserved
loop-value-preserved c =
    let fits : FitsSigned w128 c.number_in-number.result = record { sfits = c.number_in-number.type_inv } in
    let read = to_z-of_z w128 c.number_in-number.result fits in
    let high : c.high_part-high.result ≡ int_div c.number_in-number.result (pos (2 ^ 64)) = c.high_part-high.ensures.value ∙ ap (λ z. int_div z (pos (2 ^ 64))) read in
    let low : c.low_part-low.result ≡ int_rem c.number_in-number.result (pos (2 ^ 64)) = c.low_part-low.ensures.value ∙ ap (λ z. int_rem z (pos (2 ^ 64))) read in
    let parts : (c.high_part-high.result *ℤ pos (2 ^ 64)) +ℤ c.low_part-low.result ≡ c.number_in-number.result =
    ap (λ z. (z *ℤ pos (2 ^ 64)) +ℤ c.low_part-low.result) high ∙ ap (λ z. (int_div c.number_in-number.result (pos (2 ^ 64)) *ℤ pos (2 ^ 64)) +ℤ z) low ∙ quot-rem c.number_in-number.result (pos (2 ^ 64)) in
    let left : total_of (drop c.loop-value.value-index c.args.values.now) ≡ c.number_in-number.result +ℤ total_of (drop (c.loop-value.value-index + 1) c.args.values.now) =
    at_drop_more total_of c.args.values.now c.loop-value.value-index c.value-item.result c.loop-value-test.true
    ∙ ap (λ x. number_in x +ℤ total_of (drop (c.loop-value.value-index + 1) c.args.values.now)) (sym c.value-item.is)
    ∙ ap (λ z. z +ℤ total_of (drop (c.loop-value.value-index + 1) c.args.values.now)) (sym c.number_in-number.ensures) in
    record { total = omega (arith, ints); high_bound = omega (arith, ints); low_bound = omega (arith, ints) }
