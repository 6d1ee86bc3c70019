use Rattle.plan_laws.proofs.OpenedLaws.{each_tested}
use Rattle.plan_laws.proofs.reads_have_tested_tables.Goals as goal

pub returns : goal.returns
returns c = each_tested
