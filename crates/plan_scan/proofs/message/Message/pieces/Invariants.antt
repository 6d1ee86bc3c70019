use Rattle.std.proofs.Common.{◌≡◌, ◌∷◌, ◌++◌, length}
use Rattle.pb_wire.specs.Payloads.{fields_of, blocks}
use Rattle.plan_scan.specs.Pieces.{pieces_of}
use Rattle.plan_scan.proofs.message.Message.pieces.Given as goal

abbrev pub invariant-loop-block : goal.invariant-loop-block
invariant-loop-block l = l.first ∷ pieces_of l.more.items ++ l.blocks ≡ blocks l.number (fields_of l.self.bytes)

abbrev pub decreases-loop-block : goal.decreases-loop-block
decreases-loop-block l = length l.blocks
