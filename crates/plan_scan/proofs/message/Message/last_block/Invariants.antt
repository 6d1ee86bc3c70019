use Rattle.std.proofs.Common.{◌≡◌, length}
use Rattle.std.specs.List.{last_or}
use Rattle.std.specs.Option.{option_copied}
use Rattle.pb_wire.specs.Payloads.{fields_of, last_block}
use Rattle.plan_scan.proofs.message.Message.last_block.Given as goal

abbrev pub invariant-loop-block : goal.invariant-loop-block
invariant-loop-block l = last_or (option_copied l.last) l.blocks ≡ last_block l.number (fields_of l.self.bytes)

abbrev pub decreases-loop-block : goal.decreases-loop-block
decreases-loop-block l = length l.blocks
