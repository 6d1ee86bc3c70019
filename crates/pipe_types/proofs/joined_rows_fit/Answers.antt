use Rattle.pipe_types.proofs.FitLaws.{probed_of_fits, last_of_fits}
use Rattle.pipe_types.proofs.joined_rows_fit.Goals as goal

pub returns : goal.returns
returns c = record { probed = probed_of_fits; last = last_of_fits }
