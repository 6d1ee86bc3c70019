use Rattle.std.proofs.Common.{◌≡◌, ◌++◌, length, map}
use Rattle.pb_wire.specs.Payloads.{fields_of}
use Rattle.plan_parts.specs.Words.{parts}
use Rattle.plan_parts.specs.Parts.{file_item_of}
use Rattle.plan_parts.proofs.files.local_files.Given as goal

-- what is read and what is left make the whole list
abbrev pub invariant-loop-item : goal.invariant-loop-item
invariant-loop-item l = l.items.items ++ map (λ bytes. file_item_of (fields_of bytes)) l.left.blocks ≡ parts file_item_of 1 (fields_of l.message.bytes)

abbrev pub decreases-loop-item : goal.decreases-loop-item
decreases-loop-item l = length l.left.blocks
