use Rattle.std.proofs.Common.{arith}
use Rattle.value_sets.proofs.SetLaws.{constant_more}
use Rattle.value_sets.proofs.constants.set_of_constants.Goals as goal

pub loop-option-preserved : goal.loop-option-preserved
loop-option-preserved c =
    let l = c.loop-option in
    constant_more l.set c.insert.new.self c.args.options.now l.option-index c.option-item.result c.in-Const.value c.in-Const.ty l.invariant (omega (arith, c.loop-option-test.true)) c.option-item.is c.in-Const.is c.in_ok-insert.ensures
