use Rattle.std.proofs.Common.{◌≡◌, ◌∷◌, ◌∙◌, sym, ap, is_some, None, arith, true}
use Rattle.pb_wire.specs.Varint.{varint_of}
use Rattle.pb_wire.specs.Payloads.{packed_numbers}
use Rattle.pb_wire.proofs.PackedLaws.{packed-none, same_answer, numbers-first, numbers-end, numbers_of}
use Rattle.pb_wire.proofs.packed.Packed.next.Goals as goal

pub returns-then-self-eq0-clause-none : goal.returns-then-self-eq0-clause-none
returns-then-self-eq0-clause-none c _ = sym c.self.view_is ∙ numbers-end c.self.inside.bytes.now c.if-self-eq0.true

pub invariant_of-self : goal.invariant_of-self
invariant_of-self c =
    let here = sym c.varint.ensures.value ∙ c.in-Some.is in
    ap (λ bytes. is_some (packed_numbers bytes)) c.split_at.ensures.back
    ∙ same_answer c.self.inside.bytes.now c.in-Some.value c.in-Some.len here ∙ c.self.invariant

pub unreachable-requires : goal.unreachable-requires
unreachable-requires c =
    let none : varint_of c.self.inside.bytes.now ≡ None = sym c.varint.ensures.value ∙ c.in-None.is in
    let broken = ap is_some (packed-none c.self.inside.bytes.now (omega arith) none) in
    let packed : is_some (packed_numbers c.self.inside.bytes.now) ≡ true = c.self.invariant in
    cc

pub returns-clause-numbers : goal.returns-clause-numbers
returns-clause-numbers c =
    let here = sym c.varint.ensures.value ∙ c.in-Some.is in
    sym c.self.view_is ∙ numbers-first c.self.inside.bytes.now c.in-Some.value c.in-Some.len here c.self.invariant
    ∙ ap (λ bytes. c.in-Some.value ∷ numbers_of bytes) (sym c.split_at.ensures.back)
