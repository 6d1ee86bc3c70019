use Rattle.std.proofs.Common.{length, set, arith, ◌<◌, ◌/◌}
use Rattle.sub_types.proofs.BitLaws.{WritesBit-set, WritesBit-clear, WritesBit}
use Rattle.sub_types.proofs.bits.put_bit.Goals.{then-b, else-b}
use Rattle.sub_types.proofs.bits.put_bit.Goals as goal

writes : (c : goal.Joined-b) → WritesBit c.args.bytes.now (set c.args.bytes.now (c.args.i / 8) c.if-b.bytes) c.args.i c.args.b
writes c =
    let within : c.args.i / 8 < length c.args.bytes.now = omega arith in
    elim c.if-b.branch [
      | then-b w ↦ rw (w.bytes-is, w.if-b.true) (WritesBit-set c.args.bytes.now c.args.i within)
      | else-b w ↦ rw (w.bytes-is, w.if-b.false) (WritesBit-clear c.args.bytes.now c.args.i within)
    ]

pub returns-clause-put : goal.returns-clause-put
returns-clause-put c = (writes c).put

pub returns-clause-others : goal.returns-clause-others
returns-clause-others c = (writes c).others
