use Rattle.std.proofs.Common.{map, Some}
use Rattle.kernels.specs.Numbers.{compared}
use Rattle.kernels.proofs.CompareLaws.{ints_compared_constant, decs_compared_constant}
use Rattle.kernels.proofs.TruthLaws.{known, result}
use Rattle.kernels.proofs.comparison.compare_constant.Goals as goal

pub returns-clause-whole : goal.returns-clause-whole
returns-clause-whole g c = known (map result) (map (λ value. compared g.T.Native.number c.args.op value (Some c.args.constant)) c.args.a) _ c.compare_view.result c.compare_view.ensures (ints_compared_constant g.T.Native.number c.args.op c.args.constant c.args.a)

pub returns-clause-decimal : goal.returns-clause-decimal
returns-clause-decimal g c = known (map result) (map (λ value. compared g.T.Native.number c.args.op value (Some c.args.constant)) c.args.a) _ c.compare_view.result c.compare_view.ensures (decs_compared_constant g.T.Native.number c.args.op c.args.constant c.args.a)
