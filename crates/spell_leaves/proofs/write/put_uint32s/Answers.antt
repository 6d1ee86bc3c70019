use Rattle.std.proofs.Common.{arith}
use Rattle.spell_leaves.proofs.FrontLaws.{numbers_begun, uint32_front}
use Rattle.spell_leaves.proofs.write.put_uint32s.Goals as goal

pub loop-left-init : goal.loop-left-init
loop-left-init c = (omega arith, numbers_begun c.args.numbers.now c.args.out.now)

pub loop-left-preserved : goal.loop-left-preserved
loop-left-preserved c = (
  omega (arith, c.loop-left.invariant.0),
  uint32_front c.args.numbers.now c.loop-left.left c.from.result c.args.out.now c.loop-left.out c.varint.new.self c.loop-left-test.true c.loop-left.invariant.0 c.from.ensures c.loop-left.invariant.1 c.in_ok-varint.ensures,
)
