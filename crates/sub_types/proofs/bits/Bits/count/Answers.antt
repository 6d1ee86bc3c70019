use Rattle.std.proofs.Common.{◌∙◌, ap, count_by}
use Rattle.std.specs.List.{range_with_len}
use Rattle.sub_types.specs.Bits.{bit_of}
use Rattle.sub_types.proofs.StepLaws.{count_view}
use Rattle.sub_types.proofs.bits.Bits.count.Goals as goal

pub returns : goal.returns
returns c = c.count_bits.ensures ∙ ap (λ bytes. count_by (bit_of bytes) (range_with_len 0 c.self.inside.len)) c.deref.ensures.value ∙ count_view c.self.inside.bytes.items c.self.inside.len c.args.self.now c.self.view_is
