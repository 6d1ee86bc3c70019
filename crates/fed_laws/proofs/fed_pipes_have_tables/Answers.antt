use Rattle.fed_laws.proofs.GivenLaws.{known_tables}
use Rattle.fed_laws.proofs.fed_pipes_have_tables.Goals as goal

pub returns : goal.returns
returns c = known_tables
