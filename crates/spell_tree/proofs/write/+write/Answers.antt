use Rattle.std.proofs.Common.{arith}
use Rattle.plan_spell.specs.Spelled.{spelled_at}
use Rattle.spell_leaves.proofs.FrontLaws.{message_front, part_front}
use Rattle.spell_tree.specs.Seen.{tree_part_seen, trees_seen}
use Rattle.spell_tree.proofs.TreeLaws.{trees_arm}
use Rattle.spell_tree.proofs.write.+write.Goals as goal

pub write_part-returns-in-Trees : goal.write_part-returns-in-Trees
write_part-returns-in-Trees t c = trees_arm c.args.levels c.in-Trees.number c.args.part c.in-Trees.trees c.args.out.now c.write_trees.new.out c.write_trees.result c.in-Trees.is c.write_trees.ensures

pub write_parts-loop-left-preserved : goal.write_parts-loop-left-preserved
write_parts-loop-left-preserved t c = (
  omega (arith, c.loop-left.invariant.0),
  part_front tree_part_seen (spelled_at c.args.levels) c.args.parts.now c.loop-left.left c.index-parts-left.result c.index-parts-left.result c.args.out.now c.loop-left.out c.write_part.new.out c.loop-left-test.true c.loop-left.invariant.0 c.index-parts-left.is c.loop-left.invariant.1
      c.in_ok-write_part.ensures,
)

pub write_trees-loop-left-preserved : goal.write_trees-loop-left-preserved
write_trees-loop-left-preserved t c = (
  omega (arith, c.loop-left.invariant.0),
  message_front c.args.number (spelled_at c.args.levels (trees_seen c.args.trees).shape) (trees_seen c.args.trees).nodes c.loop-left.left c.len-before.result c.args.out.now c.loop-left.out c.write_tree.new.out c.close.new.self
      c.loop-left-test.true c.loop-left.invariant.0 c.loop-left.invariant.1 c.len-before.ensures c.in_ok-write_tree.ensures c.in_ok-close.ensures,
)
