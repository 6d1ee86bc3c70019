use Rattle.std.proofs.Common.{rules}
use Rattle.spell_tree.proofs.TreeLaws.{plan_put, plan_short}
use Rattle.spell_tree.proofs.write.spell.Goals as goal

pub returns-clause-bytes : goal.returns-clause-bytes
returns-clause-bytes c = plan_put c.args.tree.now c.new-out.result c.write_tree.new.out c.into_vec.result.items c.new-out.ensures c.in_ok-write_tree.ensures c.into_vec.ensures

pub returns-clause-short : goal.returns-clause-short
returns-clause-short c = plan_short c.args.tree.now c.new-out.result c.write_tree.new.out c.len-len.result c.new-out.ensures c.in_ok-write_tree.ensures c.len-len.ensures (search rules)
