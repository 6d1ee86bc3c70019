use Rattle.std.proofs.Common.{◌≡◌, sym, ap, ◌∙◌, length}
use Rattle.sub_types.proofs.BitLaws.{length-bits_of}
use Rattle.sub_types.proofs.bits.Bits.bytes.Goals as goal

pub returns-clause-bits : goal.returns-clause-bits
returns-clause-bits c =
    let len : length c.args.self.now ≡ c.self.inside.len = sym (ap length c.self.view_is) ∙ length-bits_of _ _ in
    rw (len, c.deref.ensures.value) c.self.view_is

pub returns-clause-packed : goal.returns-clause-packed
returns-clause-packed c =
    let len : length c.args.self.now ≡ c.self.inside.len = sym (ap length c.self.view_is) ∙ length-bits_of _ _ in
    rw (len, c.deref.ensures.value) c.self.invariant
