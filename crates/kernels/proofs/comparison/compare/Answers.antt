use Rattle.std.proofs.Common.{map}
use lib.Lanes.{zip2}
use Rattle.kernels.specs.Numbers.{compared}
use Rattle.kernels.proofs.CompareLaws.{ints_compared, decs_compared}
use Rattle.kernels.proofs.TruthLaws.{known, result}
use Rattle.kernels.proofs.comparison.compare.Goals as goal

pub returns-clause-whole : goal.returns-clause-whole
returns-clause-whole g c = known (map result) (zip2 (compared g.T.Native.number c.args.op) c.args.a c.args.b) _ c.compare_views.result c.compare_views.ensures (ints_compared g.T.Native.number c.args.op c.args.a c.args.b)

pub returns-clause-decimal : goal.returns-clause-decimal
returns-clause-decimal g c = known (map result) (zip2 (compared g.T.Native.number c.args.op) c.args.a c.args.b) _ c.compare_views.result c.compare_views.ensures (decs_compared g.T.Native.number c.args.op c.args.a c.args.b)
