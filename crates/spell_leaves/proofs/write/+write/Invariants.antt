-- What stands behind the place that was come to, and how far there is to go: the levels that are left, and within a message its
-- fields, a field and its messages.
use Rattle.std.proofs.Common.{◌≡◌, ◌+◌, ◌*◌, ◌++◌, ◌≤◌, drop, length, map}
use Rattle.pb_write.specs.Write.{message_bytes}
use Rattle.plan_spell.specs.Held.{fields_by}
use Rattle.plan_spell.specs.Spelled.{spelled_at}
use Rattle.spell_leaves.specs.Seen.{block_records, messages_seen, parts_seen}
use Rattle.spell_leaves.proofs.write.+write.Given as goal

abbrev pub decreases-write_message : goal.decreases-write_message
decreases-write_message l = 4 * l.levels

abbrev pub decreases-write_parts : goal.decreases-write_parts
decreases-write_parts l = 4 * l.levels + 3

abbrev pub decreases-write_part : goal.decreases-write_part
decreases-write_part l = 4 * l.levels + 2

abbrev pub decreases-write_messages : goal.decreases-write_messages
decreases-write_messages l = 4 * l.levels + 1

abbrev pub invariant-write_parts-loop-left : goal.invariant-write_parts-loop-left
invariant-write_parts-loop-left l = (l.left ≤ length l.parts) × (l.out ≡ message_bytes (fields_by (spelled_at l.levels) (parts_seen (drop l.left l.parts))) ++ l.initial.out)

abbrev pub decreases-write_parts-loop-left : goal.decreases-write_parts-loop-left
decreases-write_parts-loop-left l = l.left

abbrev pub invariant-write_messages-loop-left : goal.invariant-write_messages-loop-left
invariant-write_messages-loop-left l =
    (l.left ≤ length (messages_seen l.messages).nodes)
    × (l.out ≡ block_records l.number (drop l.left (map (spelled_at l.levels (messages_seen l.messages).shape) (messages_seen l.messages).nodes)) ++ l.initial.out)

abbrev pub decreases-write_messages-loop-left : goal.decreases-write_messages-loop-left
decreases-write_messages-loop-left l = l.left
