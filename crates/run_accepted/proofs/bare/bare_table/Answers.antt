use Rattle.run_accepted.proofs.BareLaws.{first_rows, first_types, is_there}
use Rattle.run_accepted.proofs.bare.bare_table.Goals as goal

pub returns-then-is_bare-clause-bare : goal.returns-then-is_bare-clause-bare
returns-then-is_bare-clause-bare c =
    let is = c.is_bare.ensures.0 c.if-is_bare.true in
    (λ _. is, λ _. is_there c.args.plan.now c.args.tables.now c.first.result is c.requires.tables c.first.ensures.value)

pub returns-then-is_bare-clause-rows : goal.returns-then-is_bare-clause-rows
returns-then-is_bare-clause-rows c = first_rows c.args.plan.now c.args.tables.now c.first.result (c.is_bare.ensures.0 c.if-is_bare.true) c.requires.tables c.first.ensures.value

pub returns-then-is_bare-clause-types : goal.returns-then-is_bare-clause-types
returns-then-is_bare-clause-types c = first_types c.args.plan.now c.args.tables.now c.first.result (c.is_bare.ensures.0 c.if-is_bare.true) c.requires.tables c.first.ensures.value
