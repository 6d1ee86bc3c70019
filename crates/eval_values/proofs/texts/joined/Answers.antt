use Rattle.plan_denote.specs.Order.{bytes_in}
use Rattle.eval_values.proofs.Joined.{joined_step}
use Rattle.eval_values.proofs.texts.joined.Goals as goal

pub loop-text-preserved : goal.loop-text-preserved
loop-text-preserved c =
    joined_step bytes_in c.args.texts.now c.loop-text.text-index _ _ _ _ c.loop-text-test.true c.text-item.is c.loop-text.invariant c.bytes_in.ensures c.in_ok-extend_from_slice.ensures.items
