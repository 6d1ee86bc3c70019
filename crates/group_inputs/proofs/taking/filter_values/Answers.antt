use Rattle.group_inputs.proofs.InputLaws.{no_filter, own_filter}
use Rattle.group_inputs.proofs.taking.filter_values.Goals as goal

pub returns-in-None-clause-column : goal.returns-in-None-clause-column
returns-in-None-clause-column c = rw c.in-None.is (no_filter c.args.batch.now c.args.before)

pub returns-in_ok-tests-in-Some-clause-column : goal.returns-in_ok-tests-in-Some-clause-column
returns-in_ok-tests-in-Some-clause-column c =
    let step = c.in_ok-tests-in-Some in
    rw c.in-Some.is (own_filter c.in-Some.filter c.args.batch.now c.args.before step.after step.tests step.ensures.column)
