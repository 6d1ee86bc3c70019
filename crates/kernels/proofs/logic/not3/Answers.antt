use Rattle.std.proofs.Common.{map}
use lib.Lanes.{zip2}
use Rattle.kernels.specs.Truths.{opposite}
use Rattle.kernels.proofs.TruthLaws.{known, not-values, result}
use Rattle.kernels.proofs.logic.not3.Goals as goal

pub returns : goal.returns
returns c = known (map result) (zip2 (λ a b. opposite a) c.args.a.now c.args.a.now) _ c.connect.result c.connect.ensures (not-values c.args.a.now)
