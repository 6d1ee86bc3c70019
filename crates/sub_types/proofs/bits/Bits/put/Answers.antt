use Rattle.std.proofs.Common.{◌≡◌, sym, ap, ◌∙◌, length, set, arith, subst, List, ℕ}
use Rattle.sub_types.proofs.BitLaws.{length-bits_of, set-bits_of, WritesBit, refilled}
use Rattle.sub_types.specs.Bits.{bits_of}
use Rattle.sub_types.proofs.bits.Bits.put.Goals as goal

pub put_bit-requires : goal.put_bit-requires
put_bit-requires c =
    let len : length c.args.self.now ≡ c.self.inside.len = sym (ap length c.self.view_is) ∙ length-bits_of _ _ in
    omega arith

pub returns : goal.returns
returns c =
    let len : length c.args.self.now ≡ c.self.inside.len = sym (ap length c.self.view_is) ∙ length-bits_of _ _ in
    let old = c.self.inside.bytes.items in
    let writes : WritesBit c.deref_mut.result.now c.put_bit.new.bytes c.args.i c.args.b = record { put = c.put_bit.ensures.put; others = c.put_bit.ensures.others } in
    let P : List ℕ → Type 0 = λ old. WritesBit old c.put_bit.new.bytes c.args.i c.args.b in
    ap (bits_of c.self.inside.len) (refilled c.self.inside.bytes.len c.self.inside.bytes.items c.put_bit.new.bytes (c.put_bit.ensures.len ∙ ap length c.deref_mut.ensures.value) c.self.inside.bytes.ok.0)
    ∙ set-bits_of c.self.inside.len _ c.put_bit.new.bytes c.args.i c.args.b (subst P c.deref_mut.ensures.value writes) (omega arith) ∙ ap (λ bits. set bits c.args.i c.args.b) c.self.view_is
