use Rattle.std.proofs.Common.{◌≤◌, ◌+◌, ◌*◌, length, get_or, refl, arith}
use Rattle.table_rows.proofs.PlaceLaws.{ones_more}
use Rattle.table_rows.proofs.bits.full_bytes.Goals as goal

pub loop-i-preserved : goal.loop-i-preserved
loop-i-preserved c =
    let within : 8 * (c.loop-i.i + 1) ≤ length c.args.bits.now = omega arith in
    ones_more c.args.bits.now c.bytes-bytes.result.now c.loop-i.i (get_or c.bytes-bytes.result.now c.loop-i.i 0) c.bytes-bytes.ensures.bits refl (omega arith) within c.loop-i.invariant
