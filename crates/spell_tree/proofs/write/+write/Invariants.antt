-- What stands behind the place that was come to, and how far there is to go: the levels that are left, and within a message its
-- fields, a field and its messages.
use Rattle.std.proofs.Common.{◌≡◌, ◌+◌, ◌*◌, ◌++◌, ◌≤◌, drop, length, map}
use Rattle.pb_write.specs.Write.{message_bytes}
use Rattle.plan_spell.specs.Held.{fields_by}
use Rattle.plan_spell.specs.Spelled.{spelled_at}
use Rattle.spell_leaves.specs.Seen.{block_records}
use Rattle.spell_tree.specs.Seen.{tree_parts_seen, trees_seen}
use Rattle.spell_tree.proofs.write.+write.Given as goal

abbrev pub decreases-write_tree : goal.decreases-write_tree
decreases-write_tree l = 4 * l.levels

abbrev pub decreases-write_parts : goal.decreases-write_parts
decreases-write_parts l = 4 * l.levels + 3

abbrev pub decreases-write_part : goal.decreases-write_part
decreases-write_part l = 4 * l.levels + 2

abbrev pub decreases-write_trees : goal.decreases-write_trees
decreases-write_trees l = 4 * l.levels + 1

abbrev pub invariant-write_parts-loop-left : goal.invariant-write_parts-loop-left
invariant-write_parts-loop-left l = (l.left ≤ length l.parts) × (l.out ≡ message_bytes (fields_by (spelled_at l.levels) (tree_parts_seen (drop l.left l.parts))) ++ l.initial.out)

abbrev pub decreases-write_parts-loop-left : goal.decreases-write_parts-loop-left
decreases-write_parts-loop-left l = l.left

abbrev pub invariant-write_trees-loop-left : goal.invariant-write_trees-loop-left
invariant-write_trees-loop-left l =
    (l.left ≤ length (trees_seen l.trees).nodes)
    × (l.out ≡ block_records l.number (drop l.left (map (spelled_at l.levels (trees_seen l.trees).shape) (trees_seen l.trees).nodes)) ++ l.initial.out)

abbrev pub decreases-write_trees-loop-left : goal.decreases-write_trees-loop-left
decreases-write_trees-loop-left l = l.left
