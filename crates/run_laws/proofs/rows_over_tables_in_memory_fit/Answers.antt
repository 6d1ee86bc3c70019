use Rattle.run_laws.proofs.RunLaws.{fit_in_memory}
use Rattle.run_laws.proofs.rows_over_tables_in_memory_fit.Goals as goal

pub returns : goal.returns
returns c = fit_in_memory
