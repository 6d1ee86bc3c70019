use Rattle.sorts_and_sets_tests.specs.declared.drawn.TheConstants.{NUMBER, BINARY}
use Rattle.sorts_and_sets_tests.proofs.TypeLaws.{columns_below}
use Rattle.sorts_and_sets_tests.proofs.sorts.sorted_run.Goals as goal

pub sort_run-requires : goal.sort_run-requires
sort_run-requires c = record { columns = columns_below NUMBER BINARY c.in_ok-batch.batch c.args.keys.now c.in_ok-batch.ensures c.requires }
