use Rattle.std.specs.List.{All}
use Rattle.pipe_round_tests.specs.Steps.{IsJoinOf}
use Rattle.pipe_round_tests.proofs.tables.random_tables.Given as goal

abbrev pub invariant-loop : goal.invariant-loop
invariant-loop l = All IsJoinOf l.tables.items
