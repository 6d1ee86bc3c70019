use Rattle.plan_pipes.proofs.PiecesLaws.{marks_through-order}
use Rattle.plan_pipes.proofs.pieces_laws.marks_in_any_order.Goals as goal

pub returns : goal.returns
returns c = marks_through-order
