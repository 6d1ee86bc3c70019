use Rattle.fb_bytes.proofs.LawProofs.{near_laws, length_laws}
use Rattle.fb_bytes.proofs.laws.laid_lengths.Goals as goal

pub returns : goal.returns
returns c = record { near = near_laws; lengths = length_laws }
