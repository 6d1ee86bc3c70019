use Rattle.std.proofs.Common.{◌≡◌, ◌++◌, ◌≤◌, drop, length}
use Rattle.spell_leaves.specs.Seen.{block_records}
use Rattle.spell_leaves.proofs.write.write_blocks.Given as goal

abbrev pub invariant-loop-left : goal.invariant-loop-left
invariant-loop-left l = (l.left ≤ length l.blocks) × (l.out ≡ block_records l.number (drop l.left l.blocks) ++ l.initial.out)

abbrev pub decreases-loop-left : goal.decreases-loop-left
decreases-loop-left l = l.left
