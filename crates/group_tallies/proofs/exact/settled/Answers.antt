use Rattle.std.proofs.Common.{◌≡◌, ◌∙◌, ◌^◌, pos, ◌+ℤ◌, ◌*ℤ◌, neg_ℤ, ap, arith}
use Rattle.std.specs.Prelude.{int_div, int_rem}
use Rattle.std.specs.Int.{w128}
use Rattle.std.proofs.lemmas.Int.{ints, to_z-of_z, fits_signed_from_abs}
use Rattle.group_tallies.specs.Totals.{magnitude_of, number_of_parts}
use Rattle.group_tallies.proofs.TotalLaws.{below_zero, from_zero, carried}
use Rattle.group_tallies.proofs.exact.settled.Goals as goal

pub returns-then-is_negative-clause-value : goal.returns-then-is_negative-clause-value
returns-then-is_negative-clause-value c =
    let read = to_z-of_z w128 c.args.low (fits_signed_from_abs w128 c.args.low c.requires.low_bound) in
    let whole : ((c.args.high +ℤ c.high_part.result) *ℤ pos (2 ^ 64)) +ℤ c.low_part-rest.result ≡ number_of_parts c.args.high c.args.low =
    ap (λ z. ((c.args.high +ℤ z) *ℤ pos (2 ^ 64)) +ℤ c.low_part-rest.result) (c.high_part.ensures.value ∙ ap (λ z. int_div z (pos (2 ^ 64))) read)
    ∙ ap (λ z. ((c.args.high +ℤ int_div c.args.low (pos (2 ^ 64))) *ℤ pos (2 ^ 64)) +ℤ z) (c.low_part-rest.ensures.value ∙ ap (λ z. int_rem z (pos (2 ^ 64))) read)
    ∙ carried c.args.high c.args.low in
    let size : pos (magnitude_of c.opposite_of.result) ≡ neg_ℤ (((c.args.high +ℤ c.high_part.result) *ℤ pos (2 ^ 64)) +ℤ c.low_part-rest.result) = omega (arith, ints, c.opposite_of.ensures.size) in
    below_zero c.opposite_of.result (((c.args.high +ℤ c.high_part.result) *ℤ pos (2 ^ 64)) +ℤ c.low_part-rest.result) (number_of_parts c.args.high c.args.low) c.opposite_of.ensures.sign size whole

pub returns-else-is_negative-clause-value : goal.returns-else-is_negative-clause-value
returns-else-is_negative-clause-value c =
    let read = to_z-of_z w128 c.args.low (fits_signed_from_abs w128 c.args.low c.requires.low_bound) in
    let whole : ((c.args.high +ℤ c.high_part.result) *ℤ pos (2 ^ 64)) +ℤ c.low_part-rest.result ≡ number_of_parts c.args.high c.args.low =
    ap (λ z. ((c.args.high +ℤ z) *ℤ pos (2 ^ 64)) +ℤ c.low_part-rest.result) (c.high_part.ensures.value ∙ ap (λ z. int_div z (pos (2 ^ 64))) read)
    ∙ ap (λ z. ((c.args.high +ℤ int_div c.args.low (pos (2 ^ 64))) *ℤ pos (2 ^ 64)) +ℤ z) (c.low_part-rest.ensures.value ∙ ap (λ z. int_rem z (pos (2 ^ 64))) read)
    ∙ carried c.args.high c.args.low in
    let size : pos (magnitude_of c.of_parts.result) ≡ ((c.args.high +ℤ c.high_part.result) *ℤ pos (2 ^ 64)) +ℤ c.low_part-rest.result = omega (arith, ints, c.of_parts.ensures.size) in
    from_zero c.of_parts.result (((c.args.high +ℤ c.high_part.result) *ℤ pos (2 ^ 64)) +ℤ c.low_part-rest.result) (number_of_parts c.args.high c.args.low) c.of_parts.ensures.sign size whole
