use Rattle.plan_pipes.proofs.PiecesLaws.{marks_through-append}
use Rattle.plan_pipes.proofs.pieces_laws.marks_of_more_pieces.Goals as goal

pub returns : goal.returns
returns c = marks_through-append
