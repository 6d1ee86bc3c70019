use Rattle.pipe_round_tests.proofs.TableLaws.{last_fits}
use Rattle.pipe_round_tests.proofs.tables.table_over.Goals as goal

pub table_of-requires-clause-fit : goal.table_of-requires-clause-fit
table_of-requires-clause-fit c = last_fits c.args.rights.items c.pop.new.self.items c.in-Some.piece c.in-Some.ensures.items c.requires.fit
