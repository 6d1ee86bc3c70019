use Rattle.std.proofs.Common.{◌<◌, ◌*◌, ◌+◌, sym, refl, arith, get_or, subst, ℕ}
use Rattle.pb_wire.proofs.VarintLaws.{IsPartRead, nothing_read, read_more, read_last, read_tenth, none_tenth, none_cut, next_scale, next_value, tenth_value}
use Rattle.pb_wire.proofs.number.long_varint.Goals as goal

pub loop-i-init : goal.loop-i-init
loop-i-init c = nothing_read c.args.bytes.now

pub returns-then-byte-lt2-clause-value : goal.returns-then-byte-lt2-clause-value
returns-then-byte-lt2-clause-value c = read_tenth c.args.bytes.now c.loop-i.i c.loop-i.value c.loop-i.scale c.from.result c.loop-i.invariant (omega arith) (omega arith) c.from.ensures (omega arith)

pub returns-else-byte-lt2-clause-value : goal.returns-else-byte-lt2-clause-value
returns-else-byte-lt2-clause-value c = none_tenth c.args.bytes.now c.loop-i.i c.loop-i.value c.loop-i.scale (get_or c.args.bytes.now c.loop-i.i 0) c.loop-i.invariant (omega arith) (omega arith) refl (omega arith)

pub overflow_mul-result : goal.overflow_mul-result
overflow_mul-result c =
    let few : c.from.result < 2 = omega arith in
    let whole = tenth_value c.loop-i.i c.loop-i.value c.loop-i.scale c.from.result c.loop-i.invariant.scale_is (omega arith) c.loop-i.invariant.small few in
    omega arith

pub overflow_add-result : goal.overflow_add-result
overflow_add-result c =
    let few : c.from.result < 2 = omega arith in
    let whole = tenth_value c.loop-i.i c.loop-i.value c.loop-i.scale c.from.result c.loop-i.invariant.scale_is (omega arith) c.loop-i.invariant.small few in
    omega arith

pub returns-then-byte-lt128-clause-value : goal.returns-then-byte-lt128-clause-value
returns-then-byte-lt128-clause-value c = read_last c.args.bytes.now c.loop-i.i c.loop-i.value c.loop-i.scale c.from-then-byte-lt128.result c.loop-i.invariant (omega arith) (omega arith) c.from-then-byte-lt128.ensures (omega arith)

pub overflow_mul-result-then-byte-lt128 : goal.overflow_mul-result-then-byte-lt128
overflow_mul-result-then-byte-lt128 c =
    let next = next_scale c.loop-i.i c.loop-i.scale c.loop-i.invariant.scale_is (omega arith) in
    let value = next_value c.loop-i.value c.loop-i.scale c.from-then-byte-lt128.result c.loop-i.invariant.small (omega arith) in
    omega arith

pub overflow_add-result-then-byte-lt128 : goal.overflow_add-result-then-byte-lt128
overflow_add-result-then-byte-lt128 c =
    let next = next_scale c.loop-i.i c.loop-i.scale c.loop-i.invariant.scale_is (omega arith) in
    let value = next_value c.loop-i.value c.loop-i.scale c.from-then-byte-lt128.result c.loop-i.invariant.small (omega arith) in
    omega arith

pub overflow_mul-value : goal.overflow_mul-value
overflow_mul-value c =
    let byte = c.type_inv.bytes c.loop-i.i in
    let next = next_scale c.loop-i.i c.loop-i.scale c.loop-i.invariant.scale_is (omega arith) in
    let value = next_value c.loop-i.value c.loop-i.scale c.from-in-loop-i.result c.loop-i.invariant.small (omega arith) in
    omega arith

pub overflow_add-value : goal.overflow_add-value
overflow_add-value c =
    let byte = c.type_inv.bytes c.loop-i.i in
    let next = next_scale c.loop-i.i c.loop-i.scale c.loop-i.invariant.scale_is (omega arith) in
    let value = next_value c.loop-i.value c.loop-i.scale c.from-in-loop-i.result c.loop-i.invariant.small (omega arith) in
    omega arith

pub overflow_mul-scale : goal.overflow_mul-scale
overflow_mul-scale c =
    let next = next_scale c.loop-i.i c.loop-i.scale c.loop-i.invariant.scale_is (omega arith) in
    omega arith

pub loop-i-preserved : goal.loop-i-preserved
loop-i-preserved c =
    let byte = get_or c.args.bytes.now c.loop-i.i 0 in
    let low = c.type_inv.bytes c.loop-i.i in
    let P : ℕ → Type 0 = λ bits. IsPartRead c.args.bytes.now (c.loop-i.i + 1) (c.loop-i.value + bits * c.loop-i.scale) (c.loop-i.scale * 128) in
    subst P (sym c.from-in-loop-i.ensures) (read_more c.args.bytes.now c.loop-i.i c.loop-i.value c.loop-i.scale byte c.loop-i.invariant (omega arith) (omega arith) refl (omega arith) (omega arith))

pub returns-clause-value : goal.returns-clause-value
returns-clause-value c = none_cut c.args.bytes.now c.loop-i.i c.loop-i.value c.loop-i.scale c.loop-i.invariant (omega arith)
