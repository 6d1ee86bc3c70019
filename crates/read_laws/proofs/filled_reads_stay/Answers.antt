use Rattle.read_laws.proofs.FillLaws.{filled_alike}
use Rattle.read_laws.proofs.filled_reads_stay.Goals as goal

pub returns : goal.returns
returns c = filled_alike
