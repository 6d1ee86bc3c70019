use Rattle.plan_pipes.proofs.PiecesLaws.{finished-same}
use Rattle.plan_pipes.proofs.pieces_laws.used_marks_decide.Goals as goal

pub returns : goal.returns
returns c = finished-same
