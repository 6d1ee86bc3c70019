use Rattle.agree_laws.proofs.AgreeLaws.{same_plan}
use Rattle.agree_laws.proofs.plans_denote_alike.Goals as goal

pub returns : goal.returns
returns c = same_plan
