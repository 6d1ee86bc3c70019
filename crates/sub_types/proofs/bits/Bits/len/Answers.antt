use Rattle.std.proofs.Common.{sym, ap, ◌∙◌, length}
use Rattle.sub_types.proofs.BitLaws.{length-bits_of}
use Rattle.sub_types.proofs.bits.Bits.len.Goals as goal

pub returns : goal.returns
returns c = sym (length-bits_of _ _) ∙ ap length c.self.view_is
