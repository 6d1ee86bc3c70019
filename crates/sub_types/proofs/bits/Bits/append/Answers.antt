use Rattle.std.proofs.Common.{◌≡◌, ◌∙◌, sym, ap, length, arith}
use Rattle.sub_types.proofs.BitLaws.{length-bits_of}
use Rattle.sub_types.proofs.StepLaws.{append_view}
use Rattle.sub_types.proofs.bits.Bits.append.Goals as goal

pub grow-requires-clause-within : goal.grow-requires-clause-within
grow-requires-clause-within c =
    let long : length c.args.more.now ≡ c.more.inside.len = sym (ap length c.more.view_is) ∙ length-bits_of _ _ in
    let bytes : length c.deref.result.now ≡ length c.more.inside.bytes.items = ap length c.deref.ensures.value in
    omega (arith, c.in-Some.ensures.1, c.more.invariant.enough)

pub returns-clause-ok : goal.returns-clause-ok
returns-clause-ok c =
    append_view c.self.inside.bytes.items c.grow.new.bytes.items c.deref.result.now c.more.inside.bytes.items c.self.inside.len c.more.inside.len c.in-Some.grown c.args.from c.args.to c.args.self.now c.args.more.now c.deref.ensures.value c.in-Some.ensures.1 c.self.view_is c.more.view_is c.requires.rising c.requires.within c.in_ok-grow.ensures.ok
