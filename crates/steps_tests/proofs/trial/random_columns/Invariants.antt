use Rattle.std.proofs.Common.{◌<◌, All}
use Rattle.steps_tests.proofs.trial.random_columns.Given as goal

-- the columns so far
abbrev pub invariant-loop : goal.invariant-loop
invariant-loop l = All (λ column. column < 2) l.columns.items
