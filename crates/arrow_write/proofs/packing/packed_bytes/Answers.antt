use Rattle.std.proofs.Common.{◌≡◌, ◌∙◌, ap}
use Rattle.sub_types.specs.Bits.{bits_of}
use Rattle.arrow_meta.specs.Buffers.{packed}
use Rattle.arrow_write.proofs.OkLaws.{if_ok}
use Rattle.arrow_write.proofs.packing.packed_bytes.Goals as goal

pub returns : goal.returns
returns c =
    if_ok _ (λ bytes. bytes.items ≡ packed c.args.bits.now) c.first_bits.result (λ bytes is. is ∙ ap packed (ap (λ n. bits_of n c.bytes.result.now) c.len.ensures ∙ c.bytes.ensures.bits)) c.first_bits.ensures
