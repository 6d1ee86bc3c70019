use Rattle.std.proofs.Common.{◌-◌, arith}
use Rattle.sub_types.proofs.StepLaws.{count_ones-first}
use Rattle.sub_types.proofs.bits.count_first.Goals as goal

pub returns : goal.returns
returns c = count_ones-first c.args.byte c.args.n (8 - c.args.n) (omega arith)
