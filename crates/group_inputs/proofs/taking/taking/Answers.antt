use Rattle.group_inputs.proofs.InputLaws.{tested_few, measure_takes}
use Rattle.group_inputs.proofs.taking.taking.Goals as goal

pub argument_values-requires-clause-few : goal.argument_values-requires-clause-few
argument_values-requires-clause-few c = tested_few c.args.measure.now.filter c.args.batch.now c.args.before c.in_ok-tests.tested c.in_ok-tests.tests c.in_ok-tests.ensures.column c.requires.few

pub returns : goal.returns
returns c =
    measure_takes c.args.measure.now c.args.batch.now c.args.before c.in_ok-tests.tested c.in_ok-values.after c.in_ok-tests.tests c.in_ok-values.values c.in_ok-tests.ensures.column c.in_ok-values.ensures
