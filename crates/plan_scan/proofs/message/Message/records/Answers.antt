use Rattle.std.proofs.Common.{◌∷◌}
use Rattle.plan_scan.specs.Pieces.{pieces_of}
use Rattle.plan_scan.proofs.PieceLaws.{wholes}
use Rattle.plan_scan.proofs.message.Message.records.Goals as goal

pub new-requires : goal.new-requires
new-requires c = wholes c.self.inside.below c.self.inside.shape (c.self.inside.first.now ∷ pieces_of c.self.inside.later.now) c.self.invariant.0
