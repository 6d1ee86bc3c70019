use Rattle.std.proofs.Common.{All}
use Rattle.steps_tests.specs.Typed.{number, IsOver}
use Rattle.steps_tests.proofs.exprs.random_numbers.Given as goal

-- the expressions so far
abbrev pub invariant-loop : goal.invariant-loop
invariant-loop l = All (IsOver number) l.exprs.items
