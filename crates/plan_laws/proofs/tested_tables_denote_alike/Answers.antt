use Rattle.plan_laws.proofs.TableLaw.{law_of_tested}
use Rattle.plan_laws.proofs.tested_tables_denote_alike.Goals as goal

pub returns : goal.returns
returns c = law_of_tested
