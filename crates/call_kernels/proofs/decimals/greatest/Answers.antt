use Rattle.std.proofs.Common.{arith, lit<}
use Rattle.std.proofs.Math.Nat.{one-le-pow}
use Rattle.call_kernels.proofs.decimals.greatest.Goals as goal

pub overflow_sub-result : goal.overflow_sub-result
overflow_sub-result c = omega (arith, c.power_of_ten-power.ensures.value, one-le-pow c.args.digits 10 (lit< tt))
