use Rattle.std.proofs.Common.{map}
use lib.Lanes.{zip2}
use Rattle.sub_types.specs.Nullable.{bool_value}
use Rattle.kernels.specs.Truths.{both}
use Rattle.kernels.proofs.TruthLaws.{known, and-values}
use Rattle.kernels.proofs.logic.and3.Goals as goal

pub returns : goal.returns
returns c = known (map bool_value) (zip2 both c.args.a.now c.args.b.now) _ c.connect.result c.connect.ensures (and-values c.args.a.now c.args.b.now)
