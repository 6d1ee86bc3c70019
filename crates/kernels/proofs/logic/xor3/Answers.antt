use Rattle.std.proofs.Common.{map}
use lib.Lanes.{zip2}
use Rattle.kernels.specs.Truths.{differ}
use Rattle.kernels.proofs.TruthLaws.{known, xor-values, result}
use Rattle.kernels.proofs.logic.xor3.Goals as goal

pub returns : goal.returns
returns c = known (map result) (zip2 differ c.args.a.now c.args.b.now) _ c.connect.result c.connect.ensures (xor-values c.args.a.now c.args.b.now)
