use Rattle.std.proofs.Common.{◌∙◌, length, is_some, false, sym, ap, arith}
use Rattle.std.proofs.lemmas.List.{length-map}
use Rattle.sub_types.specs.Slots.{length-slots}
use Rattle.kernels.specs.Truths.{connected}
use Rattle.kernels.proofs.TruthLaws.{reached, connected_columns, same_bytes, packed, length-packed, bits_of_values, bits_of_valid}
use Rattle.kernels.proofs.logic.connect.Goals as goal

pub value_bytes-requires : goal.value_bytes-requires
value_bytes-requires c =
    let a = ap length c.values.ensures ∙ length-slots false c.args.a.now in
    let va = ap length c.validity.ensures ∙ length-map c.args.a.now is_some in
    let b = ap length c.values-2.ensures ∙ length-slots false c.args.b.now in
    let vb = ap length c.validity-2.ensures ∙ length-map c.args.b.now is_some in
    record {
      a_valid = same_bytes (length c.validity.result.now) (length c.values.result.now) _ _ c.bytes-a_valid.ensures.packed c.bytes-a_values.ensures.packed (omega arith);
      b = same_bytes (length c.values-2.result.now) (length c.values.result.now) _ _ c.bytes-b_values.ensures.packed c.bytes-a_values.ensures.packed (omega (arith, c.requires));
      b_valid = same_bytes (length c.validity-2.result.now) (length c.values.result.now) _ _ c.bytes-b_valid.ensures.packed c.bytes-a_values.ensures.packed (omega (arith, c.requires));
    }

pub from_packed-requires : goal.from_packed-requires
from_packed-requires c =
    packed c.len-len.result c.bytes-a_values.result.now c.in_ok-values.values.items c.args.a.now c.values.result.now c.values.ensures c.len-len.ensures c.bytes-a_values.ensures.packed c.in_ok-values.ensures.long

pub from_packed-requires-2 : goal.from_packed-requires-2
from_packed-requires-2 c =
    packed c.len-len.result c.bytes-a_values.result.now c.in_ok-valid.valid.items c.args.a.now c.values.result.now c.values.ensures c.len-len.ensures c.bytes-a_values.ensures.packed c.in_ok-valid.ensures.long

pub from_parts-requires : goal.from_parts-requires
from_parts-requires c = rw (c.from_packed.ensures, c.from_packed-2.ensures) (length-packed c.len-len.result c.in_ok-values.values.items ∙ sym (length-packed c.len-len.result c.in_ok-valid.valid.items))

pub returns : goal.returns
returns c =
    let n = c.len-len.result in
    let count = length c.bytes-a_values.result.now in
    let enough = (packed n c.bytes-a_values.result.now c.in_ok-values.values.items c.args.a.now c.values.result.now c.values.ensures c.len-len.ensures c.bytes-a_values.ensures.packed c.in_ok-values.ensures.long).enough in
    rw (c.from_parts.ensures, c.from_packed.ensures, c.from_packed-2.ensures)
    (connected_columns (connected c.args.connective) n count c.bytes-a_values.result.now c.bytes-a_valid.result.now c.bytes-b_values.result.now c.bytes-b_valid.result.now c.in_ok-values.values.items c.in_ok-valid.valid.items c.args.a.now c.args.b.now
    (bits_of_values n c.bytes-a_values.result.now c.values.result.now c.args.a.now c.bytes-a_values.ensures.bits c.values.ensures c.len-len.ensures)
    (bits_of_valid n c.bytes-a_valid.result.now c.validity.result.now c.args.a.now c.bytes-a_valid.ensures.bits c.validity.ensures c.len-len.ensures)
    (bits_of_values n c.bytes-b_values.result.now c.values-2.result.now c.args.b.now c.bytes-b_values.ensures.bits c.values-2.ensures (c.len-len.ensures ∙ c.requires))
    (bits_of_valid n c.bytes-b_valid.result.now c.validity-2.result.now c.args.b.now c.bytes-b_valid.ensures.bits c.validity-2.ensures (c.len-len.ensures ∙ c.requires))
    (omega (arith, enough, c.in_ok-values.ensures.long))
    (reached c.args.connective c.bytes-a_values.result.now c.bytes-a_valid.result.now c.bytes-b_values.result.now c.bytes-b_valid.result.now c.in_ok-values.values.items c.in_ok-valid.valid.items c.are_bytes.ensures c.are_bytes-2.ensures c.in_ok-values.ensures c.in_ok-valid.ensures))
