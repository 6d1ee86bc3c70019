use Rattle.std.proofs.Common.{◌≡◌, ◌∙◌, sym, ap, is_some, None, arith}
use Rattle.pb_wire.specs.Varint.{varint_of}
use Rattle.pb_wire.specs.Payloads.{packed_numbers}
use Rattle.pb_wire.proofs.PackedLaws.{packed-end, packed-none, same_answer}
use Rattle.pb_wire.proofs.packed.is_packed.Goals as goal

pub returns-in_default : goal.returns-in_default
returns-in_default c =
    let none : varint_of c.loop-rest.rest.now ≡ None = sym c.varint.ensures.value ∙ c.in_default.is in
    sym (ap is_some (packed-none c.loop-rest.rest.now (omega arith) none)) ∙ c.loop-rest.invariant

pub loop-rest-preserved : goal.loop-rest-preserved
loop-rest-preserved c =
    let here = sym c.varint.ensures.value ∙ c.in-Some.is in
    ap (λ bytes. is_some (packed_numbers bytes)) c.split_at.ensures.back
    ∙ same_answer c.loop-rest.rest.now c.in-Some.field-0-0 c.in-Some.len here ∙ c.loop-rest.invariant

pub returns : goal.returns
returns c = sym (ap is_some (packed-end c.loop-rest.rest.now (omega arith))) ∙ c.loop-rest.invariant
