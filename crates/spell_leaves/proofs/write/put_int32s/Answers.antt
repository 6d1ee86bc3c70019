use Rattle.std.proofs.Common.{◌-◌, get_or, pos, refl, arith}
use Rattle.spell_leaves.proofs.FrontLaws.{int32_front}
use Rattle.spell_leaves.proofs.write.put_int32s.Goals as goal

pub loop-left-preserved : goal.loop-left-preserved
loop-left-preserved c = (
  omega (arith, c.loop-left.invariant.0),
  int32_front c.args.numbers.now c.loop-left.left (get_or c.args.numbers.now (c.loop-left.left - 1) (pos 0)) (pos 0) c.args.out.now c.loop-left.out c.put_int32.new.out c.loop-left-test.true c.loop-left.invariant.0 refl c.loop-left.invariant.1 c.in_ok-put_int32.ensures,
)
