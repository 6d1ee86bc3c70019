use Rattle.worked_sorts_tests.specs.declared.columns.TheConstants.{NUMBER, BINARY}
use Rattle.worked_sorts_tests.proofs.TypeLaws.{first_below}
use Rattle.worked_sorts_tests.proofs.sorts.sorted_run.Goals as goal

pub sort_run-requires : goal.sort_run-requires
sort_run-requires c = record { columns = first_below NUMBER BINARY c.args.batch c.args.keys.now c.requires.types c.requires.keys }
