use Rattle.std.proofs.Common.{◌≡◌, ◌∙◌, ◌*◌, length, take, ap, refl, rules, tests, nat_le, true}
use Rattle.sub_types.specs.Bits.{bit_of, bits_of}
use Rattle.std.proofs.lemmas.List.FromFn.{length-map-range_with_len}
use Rattle.arrow_meta.specs.Values.{bits_in}
use Rattle.arrow_decode.proofs.BufferLaws.{bits_of-take}
use Rattle.arrow_decode.proofs.buffer.bits.Goals as goal

pub returns-clause-bits : goal.returns-clause-bits
unfolding bits_in
returns-clause-bits c =
    let count = c.args.count in
    let buffer = c.args.buffer.now in
    let size = c.byte_count-size.result in
    let copied : c.in_ok-to_vec.field-0.items ≡ take size buffer = search rules in
    let seen : c.from_packed.result ≡ bits_of count buffer = c.from_packed.ensures ∙ ap (bits_of count) copied ∙ bits_of-take count size buffer c.byte_count-size.ensures.enough in
    let within : nat_le count (8 * length buffer) ≡ true = search (rules, tests) in
    rw (within, seen) refl

pub returns-clause-long : goal.returns-clause-long
returns-clause-long c =
    ap length c.from_packed.ensures ∙ length-map-range_with_len (bit_of c.in_ok-to_vec.field-0.items) 0 c.args.count
