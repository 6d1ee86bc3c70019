use Rattle.aggregate_tests.specs.Typed.{numbers}
use Rattle.aggregate_tests.proofs.trial.sets_by_parts.Goals as goal

pub merge-requires : goal.merge-requires
merge-requires c = record { over = (numbers, c.in_ok-first.ensures, c.in_ok-second.ensures) }

pub finals-requires : goal.finals-requires
finals-requires c = record { over = (numbers, c.in_ok-merge.ensures.over numbers c.in_ok-first.ensures c.in_ok-second.ensures) }
