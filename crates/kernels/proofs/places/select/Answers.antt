use Rattle.std.proofs.Common.{◌≡◌, ◌∙◌, ap, arith}
use Rattle.std.specs.List.{filter, range_with_len}
use Rattle.sub_types.specs.Bits.{bit_of}
use Rattle.kernels.specs.Rising.{rises}
use Rattle.kernels.proofs.PlaceLaws.{Finds-more, true_places, rises-filter}
use Rattle.kernels.proofs.TruthLaws.{bits_of_values}
use Rattle.kernels.proofs.places.select.Goals as goal

pub loop-i-preserved : goal.loop-i-preserved
loop-i-preserved c = Finds-more (bit_of c.bytes-bytes.result.now) c.loop-i.rows.items c.len-len.result c.loop-i.count c.loop-i.i c.bit_at-count.result c.loop-i.invariant c.loop-i-test.true c.bit_at-count.ensures

pub invariant_of-result : goal.invariant_of-result
invariant_of-result c =
    record { rising = ap rises (c.truncate.ensures.items ∙ c.loop-i.invariant.found) ∙ rises-filter (bit_of c.bytes-bytes.result.now) c.loop-i.i }

pub returns : goal.returns
returns c =
    let n = c.len-len.result in
    let bytes = c.bytes-bytes.result.now in
    let end : c.loop-i.i ≡ c.len-len.result = omega arith in
    c.truncate.ensures.items
    ∙ c.loop-i.invariant.found
    ∙ ap (λ i. filter (bit_of bytes) (range_with_len 0 i)) end
    ∙ true_places n bytes c.args.a.now (bits_of_values n bytes c.values.result.now c.args.a.now c.bytes-bytes.ensures.bits c.values.ensures c.len-len.ensures) c.len-len.ensures
