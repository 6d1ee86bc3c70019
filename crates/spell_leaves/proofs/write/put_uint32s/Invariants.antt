use Rattle.std.proofs.Common.{◌≡◌, ◌++◌, ◌≤◌, drop, length}
use Rattle.pb_write.specs.Write.{packed_bytes}
use Rattle.spell_leaves.proofs.write.put_uint32s.Given as goal

abbrev pub invariant-loop-left : goal.invariant-loop-left
invariant-loop-left l = (l.left ≤ length l.numbers) × (l.out ≡ packed_bytes (drop l.left l.numbers) ++ l.initial.out)

abbrev pub decreases-loop-left : goal.decreases-loop-left
decreases-loop-left l = l.left
