use Rattle.fed_laws.proofs.CountLaws.{reads_differ}
use Rattle.fed_laws.proofs.read_numbers_differ.Goals as goal

pub returns : goal.returns
returns c = reads_differ
