use Rattle.std.proofs.Common.{◌≡◌, ◌∙◌, ℤ, Some, map, sym, ap}
use Rattle.std.specs.Int.{w128}
use Rattle.std.specs.Option.{option_map}
use Rattle.arrow_meta.specs.Values.{signed_in}
use Rattle.arrow_decode.proofs.NumberLaws.{option_map-same, optional_numbers, decimals_bad, decimals_good}
use Rattle.arrow_decode.proofs.fixed.decimals.Goals as goal

pub returns-then-not-all_have_digits : goal.returns-then-not-all_have_digits
returns-then-not-all_have_digits c =
    let column = c.in-Some.column in
    let found : optional_numbers c.args.valid (signed_in w128 16 c.args.count c.args.buffer.now) ≡ Some column =
    sym c.in_ok-column.ensures ∙ ap (option_map (map (option_map (λ (n : ℤ). n)))) c.in-Some.is ∙ ap (λ xs. Some xs) (option_map-same column) in
    sym (decimals_bad c.args.precision c.args.count c.args.valid c.args.buffer.now column found (sym c.if-not-all_have_digits.ensures))

pub returns : goal.returns
returns c =
    let column = c.in-Some.column in
    let found : optional_numbers c.args.valid (signed_in w128 16 c.args.count c.args.buffer.now) ≡ Some column =
    sym c.in_ok-column.ensures ∙ ap (option_map (map (option_map (λ (n : ℤ). n)))) c.in-Some.is ∙ ap (λ xs. Some xs) (option_map-same column) in
    sym (decimals_good c.args.precision c.args.count c.args.valid c.args.buffer.now column found (sym c.if-not-all_have_digits.ensures))
