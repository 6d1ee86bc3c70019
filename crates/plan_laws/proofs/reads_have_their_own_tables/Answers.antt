use Rattle.plan_laws.proofs.OpenedLaws.{own_tables}
use Rattle.plan_laws.proofs.reads_have_their_own_tables.Goals as goal

pub returns : goal.returns
returns c = own_tables
