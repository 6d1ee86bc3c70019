use Rattle.plan_laws.proofs.TestLaws.{read_again}
use Rattle.plan_laws.proofs.tested_rows_are_read_alike.Goals as goal

pub returns : goal.returns
returns c = read_again
