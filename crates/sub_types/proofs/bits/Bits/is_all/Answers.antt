use Rattle.std.proofs.Common.{◌∙◌, sym, ap, length}
use Rattle.sub_types.proofs.BitLaws.{length-bits_of}
use Rattle.sub_types.proofs.StepLaws.{is_all_view}
use Rattle.sub_types.proofs.bits.Bits.is_all.Goals as goal

pub returns : goal.returns
returns c = is_all_view c.args.self.now c.count.result c.self.inside.len c.count.ensures (sym (ap length c.self.view_is) ∙ length-bits_of c.self.inside.len c.self.inside.bytes.items)
