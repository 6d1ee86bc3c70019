use Rattle.group_inputs.proofs.ChosenLaws.{no_argument, all_argument, tests_there}
use Rattle.group_inputs.proofs.arguments.argument_values.Goals as goal

pub returns-in-None-default : goal.returns-in-None-default
returns-in-None-default c = rw c.in-None-default.is-0 (no_argument c.args.batch.now c.args.tests.now c.args.tested (tests_there c.args.tests.now c.args.tested.rows c.requires.tests))

pub returns-in_ok-values-in-Some-None : goal.returns-in_ok-values-in-Some-None
returns-in_ok-values-in-Some-None c =
    let step = c.in_ok-values-in-Some-None in
    rw (c.in-Some-None.is-0, c.in-Some-None.is-1) (all_argument c.in-Some-None.arg c.args.batch.now c.args.tested step.after step.values step.ensures.column)
