use Rattle.std.proofs.Common.{◌≡◌, ap, ◌∙◌, ℕ, ◌+◌, ◌∷◌, [], ◌++◌, ◌≢◌, length}
use Rattle.sub_types.proofs.BitLaws.{push_view, refilled}
use Rattle.sub_types.specs.Bits.{bits_of, bit_of}
use Rattle.sub_types.proofs.bits.Bits.push.Goals as goal

pub returns-clause-ok : goal.returns-clause-ok
returns-clause-ok c =
    let middle = c.make_room.new.bytes in
    let len : length c.put_bit.new.bytes ≡ length middle.items = c.put_bit.ensures.len ∙ ap length c.deref_mut.ensures.value in
    let others : (k : ℕ) → k ≢ c.self.inside.len → bit_of c.put_bit.new.bytes k ≡ bit_of middle.items k = λ k ne. c.put_bit.ensures.others k ne ∙ ap (λ bytes. bit_of bytes k) c.deref_mut.ensures.value in
    let grown : c.in-Some.grown ≡ c.self.inside.len + 1 = c.in-Some.ensures.1 in
    ap (bits_of c.in-Some.grown) (refilled middle.len middle.items c.put_bit.new.bytes len middle.ok.0)
    ∙ ap (λ n. bits_of n c.put_bit.new.bytes) grown
    ∙ push_view c.self.inside.len c.self.inside.bytes.items middle.items c.put_bit.new.bytes c.args.b c.in_ok-make_room.ensures.same c.put_bit.ensures.put others
    ∙ ap (λ front. front ++ c.args.b ∷ []) c.self.view_is
