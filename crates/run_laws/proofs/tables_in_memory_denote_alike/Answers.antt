use Rattle.run_laws.proofs.RunLaws.{denote_in_memory}
use Rattle.run_laws.proofs.tables_in_memory_denote_alike.Goals as goal

pub returns : goal.returns
returns c = denote_in_memory
