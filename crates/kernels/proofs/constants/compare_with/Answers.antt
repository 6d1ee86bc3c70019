use Rattle.std.proofs.Common.{◌∙◌, Option, None, map, replicate, sym, ap}
use Rattle.plan_denote.specs.Logic as logic
use Rattle.kernels.specs.Numbers.{int_of, dec_of, ints, decs, test_of}
use Rattle.kernels.proofs.TruthLaws.{known, result}
use Rattle.kernels.proofs.ConstantLaws.{ints_with_null, decs_with_null}
use Rattle.kernels.proofs.constants.compare_with.Goals as goal

pub returns-in-None-clause-whole : goal.returns-in-None-clause-whole
returns-in-None-clause-whole g c =
    let number = g.T.Native.number in
    known (map result) (replicate c.len.result None) _ c.constant.result c.constant.ensures
    (ap (λ n. map result (replicate n None)) c.len.ensures
    ∙ ints_with_null number c.args.op c.args.a
    ∙ ap (λ (k : Option g.row.T.Denot). map (λ value. logic.compared (test_of c.args.op) value (int_of number k)) (ints number c.args.a)) (sym c.in-None.is))

pub returns-in-None-clause-decimal : goal.returns-in-None-clause-decimal
returns-in-None-clause-decimal g c =
    let number = g.T.Native.number in
    known (map result) (replicate c.len.result None) _ c.constant.result c.constant.ensures
    (ap (λ n. map result (replicate n None)) c.len.ensures
    ∙ decs_with_null number c.args.op c.args.a
    ∙ ap (λ (k : Option g.row.T.Denot). map (λ value. logic.compared (test_of c.args.op) value (dec_of number k)) (decs number c.args.a)) (sym c.in-None.is))
