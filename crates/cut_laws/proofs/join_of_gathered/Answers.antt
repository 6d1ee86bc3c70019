use Rattle.cut_laws.proofs.StreamLaws.{joined_whole}
use Rattle.cut_laws.proofs.join_of_gathered.Goals as goal

pub returns : goal.returns
returns c = joined_whole
