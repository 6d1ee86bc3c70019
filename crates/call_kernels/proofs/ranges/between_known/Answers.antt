-- Both comparisons together.
use Rattle.call_kernels.specs.Operand.{values}
use Rattle.call_kernels.proofs.RangeLaws.{between_both}
use Rattle.call_kernels.proofs.ranges.between_known.Goals as goal

pub returns : goal.returns
returns c =
    between_both c.args.low.now c.args.high.now c.requires.low c.requires.high (values c.args.n c.args.a) c.args.n c.in-Some.above c.in-Some-2.below _ c.requires.a
    (rw c.in-Some.is at c.in_ok-above.ensures) (rw c.in-Some-2.is at c.in_ok-below.ensures) c.in_ok-and3.ensures
