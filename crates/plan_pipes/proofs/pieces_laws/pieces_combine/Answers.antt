use Rattle.plan_pipes.proofs.PiecesLaws.{pieces_combine}
use Rattle.plan_pipes.proofs.pieces_laws.pieces_combine.Goals as goal

pub returns : goal.returns
returns c = pieces_combine
