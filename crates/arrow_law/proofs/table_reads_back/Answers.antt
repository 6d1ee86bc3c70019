use Rattle.arrow_law.proofs.Law.{written_table}
use Rattle.arrow_law.proofs.table_reads_back.Goals as goal

pub returns : goal.returns
returns c = record { reads_back = written_table }
