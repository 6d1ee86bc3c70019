use Rattle.std.proofs.Common.{◌≡◌, sym, ap, ◌∙◌, length, take, arith}
use Rattle.std.proofs.lemmas.List.{take_all}
use Rattle.sub_types.proofs.BitLaws.{length-bits_of, take-bits_of, bits_of-take}
use Rattle.sub_types.specs.Bits.{bits_of}
use Rattle.sub_types.proofs.bits.Bits.truncate.Goals as goal

pub returns-then-n-self : goal.returns-then-n-self
returns-then-n-self c =
    ap (bits_of c.args.n) c.truncate.ensures.items
    ∙ bits_of-take c.args.n c.byte_count.result c.self.inside.bytes.items c.byte_count.ensures.enough
    ∙ sym (take-bits_of c.self.inside.len c.args.n c.self.inside.bytes.items (omega arith))
    ∙ ap (take c.args.n) c.self.view_is

pub returns-else-n-self : goal.returns-else-n-self
returns-else-n-self c =
    let len : length c.args.self.now ≡ c.self.inside.len = sym (ap length c.self.view_is) ∙ length-bits_of _ _ in
    sym (take_all c.args.n c.args.self.now (omega arith))
