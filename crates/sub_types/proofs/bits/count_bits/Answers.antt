use Rattle.std.proofs.Common.{◌≡◌, ◌<◌, ◌+◌, ◌*◌, ◌/◌, ◌%◌, ap, refl, get_or, count_by, arith}
use Rattle.std.specs.List.{range_with_len}
use Rattle.sub_types.specs.Bits.{bit_of}
use Rattle.sub_types.specs.BitSteps.{is_set}
use Rattle.sub_types.proofs.StepLaws.{count-more, count-at_most}
use Rattle.sub_types.proofs.bits.count_bits.Goals as goal

pub loop-i-preserved : goal.loop-i-preserved
loop-i-preserved c =
    let place : 8 * (c.loop-i.i + 1) ≡ 8 * c.loop-i.i + 8 = omega arith in
    omega (arith, c.loop-i.invariant, c.count_first-count.ensures, ap (λ n. count_by (bit_of c.args.bytes.now) (range_with_len 0 n)) place, count-more c.args.bytes.now c.loop-i.i 8 (get_or c.args.bytes.now c.loop-i.i 0) (omega arith) refl)

pub returns : goal.returns
returns c =
    let place : 8 * (c.args.len / 8) + c.args.len % 8 ≡ c.args.len = omega arith in
    let end : 8 * c.loop-i.i ≡ 8 * (c.args.len / 8) = omega arith in
    omega (arith, c.loop-i.invariant, c.count_first.ensures, ap (λ n. count_by (bit_of c.args.bytes.now) (range_with_len 0 n)) place, ap (λ n. count_by (bit_of c.args.bytes.now) (range_with_len 0 n)) end, count-more c.args.bytes.now (c.args.len / 8) (c.args.len % 8) (get_or c.args.bytes.now (c.args.len / 8) 0) (omega arith) refl)

pub overflow_add-count : goal.overflow_add-count
overflow_add-count c = omega (arith, c.loop-i.invariant, c.count_first-count.ensures, count-at_most (bit_of c.args.bytes.now) (8 * c.loop-i.i), count-at_most (is_set (get_or c.args.bytes.now c.loop-i.i 0)) 8)

pub overflow_add-result : goal.overflow_add-result
overflow_add-result c =
    let few : c.args.len % 8 < 8 = omega arith in
    omega (arith, c.loop-i.invariant, c.count_first.ensures, count-at_most (bit_of c.args.bytes.now) (8 * c.loop-i.i), count-at_most (is_set (get_or c.args.bytes.now (c.args.len / 8) 0)) (c.args.len % 8))
