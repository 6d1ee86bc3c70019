use Rattle.std.proofs.Common.{◌+◌, arith}
use Rattle.plan_denote.specs.Order.{bytes_in}
use Rattle.eval_values.proofs.Joined.{joined_part, longer_step}
use Rattle.eval_values.proofs.texts.joined_length.Goals as goal

pub returns-then-more-length : goal.returns-then-more-length
returns-then-more-length c =
    omega (arith, joined_part bytes_in c.args.texts.now (c.loop-text.text-index + 1), longer_step bytes_in c.args.texts.now c.loop-text.text-index _ _ _ c.loop-text-test.true c.text-item.is c.loop-text.invariant.0 c.bytes_in-more.ensures)

pub loop-text-preserved : goal.loop-text-preserved
loop-text-preserved c =
    (longer_step bytes_in c.args.texts.now c.loop-text.text-index _ _ _ c.loop-text-test.true c.text-item.is c.loop-text.invariant.0 c.bytes_in-more.ensures, omega arith)
