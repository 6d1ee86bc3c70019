use Rattle.agree_laws.proofs.AgreeLaws.{same_rows}
use Rattle.agree_laws.proofs.relations_denote_alike.Goals as goal

pub returns : goal.returns
returns c = same_rows
