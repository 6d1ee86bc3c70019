use Rattle.std.proofs.Common.{◌≡◌, sym, ap, ◌∙◌, length, get_or, false, arith}
use Rattle.sub_types.proofs.BitLaws.{length-bits_of, get_or-bits_of}
use Rattle.sub_types.specs.Bits.{bit_of}
use Rattle.sub_types.proofs.bits.Bits.get.Goals as goal

pub bit_at-requires : goal.bit_at-requires
bit_at-requires c =
    let len : length c.args.self.now ≡ c.self.inside.len = sym (ap length c.self.view_is) ∙ length-bits_of _ _ in
    omega arith

pub returns : goal.returns
returns c =
    let len : length c.args.self.now ≡ c.self.inside.len = sym (ap length c.self.view_is) ∙ length-bits_of _ _ in
    c.bit_at.ensures ∙ ap (λ bytes. bit_of bytes c.args.i) c.deref.ensures.value
    ∙ sym (get_or-bits_of c.self.inside.len _ c.args.i false (omega arith)) ∙ ap (λ bits. get_or bits c.args.i false) c.self.view_is
