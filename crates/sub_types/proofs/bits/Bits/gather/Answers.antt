use Rattle.std.proofs.Common.{◌≡◌, ◌≤◌, ◌*◌, ◌∙◌, sym, ap, length, arith}
use Rattle.sub_types.proofs.BitLaws.{length-bits_of, refilled}
use Rattle.sub_types.proofs.StepLaws.{gather_view}
use Rattle.sub_types.specs.Bits.{bits_of}
use Rattle.sub_types.proofs.bits.Bits.gather.Goals as goal

pub pick-requires-clause-within : goal.pick-requires-clause-within
pick-requires-clause-within c = λ k d lt.
    let long : length c.args.self.now ≡ c.self.inside.len = sym (ap length c.self.view_is) ∙ length-bits_of _ _ in
    let bytes : length c.deref.result.now ≡ length c.self.inside.bytes.items = ap length c.deref.ensures.value in
    omega (arith, c.requires k d lt, c.self.invariant.enough)

pub returns : goal.returns
returns c =
    let made = c.in_ok-bytes.bytes in
    let size : length c.deref_mut.result.now ≡ length made.items = ap length c.deref_mut.ensures.value in
    let enough : length c.args.at.now ≤ 8 * length c.deref_mut.result.now = omega (arith, size, made.ok.0, c.in_ok-bytes.ensures.len, c.byte_count.ensures.enough) in
    ap (bits_of (length c.args.at.now)) (refilled made.len made.items c.pick.new.bytes (c.pick.ensures.len ∙ size) made.ok.0)
    ∙ gather_view c.deref.result.now c.self.inside.bytes.items c.args.at.now c.pick.new.bytes c.self.inside.len (length c.deref_mut.result.now) c.args.self.now c.deref.ensures.value c.self.view_is c.requires enough c.pick.ensures.made
