use Rattle.plan_laws.proofs.OpenedLaws.{law_of_opened}
use Rattle.plan_laws.proofs.opened_tables_denote_alike.Goals as goal

pub returns : goal.returns
returns c = law_of_opened
