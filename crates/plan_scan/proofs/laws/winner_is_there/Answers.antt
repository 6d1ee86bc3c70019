use Rattle.plan_scan.proofs.MemberLaws.{winner_there}
use Rattle.plan_scan.proofs.laws.winner_is_there.Goals as goal

pub returns : goal.returns
returns c = winner_there
