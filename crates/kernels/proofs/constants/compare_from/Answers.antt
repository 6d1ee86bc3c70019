use Rattle.std.proofs.Common.{◌∙◌, map, ap}
use Rattle.plan_denote.specs.Logic as logic
use Rattle.kernels.specs.Numbers.{int_of, dec_of, ints, decs, test_of}
use Rattle.kernels.proofs.TruthLaws.{result}
use Rattle.kernels.proofs.ConstantLaws.{renamed, ints_turned, decs_turned}
use Rattle.kernels.proofs.constants.compare_from.Goals as goal

pub returns-clause-whole : goal.returns-clause-whole
returns-clause-whole g c =
    let number = g.T.Native.number in
    renamed (map result) _ _ c.compare_with.result c.compare_with.ensures.whole
    (ap (λ op. map (λ value. logic.compared (test_of op) value (int_of number c.args.constant)) (ints number c.args.b)) c.turned.ensures
    ∙ ints_turned number c.args.op c.args.constant c.args.b)

pub returns-clause-decimal : goal.returns-clause-decimal
returns-clause-decimal g c =
    let number = g.T.Native.number in
    renamed (map result) _ _ c.compare_with.result c.compare_with.ensures.decimal
    (ap (λ op. map (λ value. logic.compared (test_of op) value (dec_of number c.args.constant)) (decs number c.args.b)) c.turned.ensures
    ∙ decs_turned number c.args.op c.args.constant c.args.b)
