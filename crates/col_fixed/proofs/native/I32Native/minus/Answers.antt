use Rattle.std.specs.Int.{w32}
use Rattle.col_fixed.proofs.LaneLaws.{left_of_difference}
use Rattle.col_fixed.proofs.native.I32Native.minus.Goals as goal

pub returns-clause-value : goal.returns-clause-value
returns-clause-value c = left_of_difference w32 c.args.self c.args.other _ c.ranges.self c.ranges.other c.overflowing_sub.ensures.value
