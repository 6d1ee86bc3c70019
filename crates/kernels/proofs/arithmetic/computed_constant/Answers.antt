use Rattle.std.proofs.Common.{length, replicate}
use Rattle.kernels.proofs.AllLaws.{whole_valid}
use Rattle.kernels.proofs.arithmetic.computed_constant.Goals as goal

pub returns-else-is_division : goal.returns-else-is_division
returns-else-is_division g c = whole_valid c.args.op g.T.Native.number g.T.Native.zero c.args.range.0 c.args.range.1 c.args.a.now (replicate (length c.args.a.now) c.args.constant) c.args.valid.now c.compute_all_constant.result c.compute_all_constant.ensures
