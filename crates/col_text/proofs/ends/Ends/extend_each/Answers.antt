use Rattle.std.proofs.Common.{arith, rules, tests}
use Rattle.col_text.proofs.EndLaws.{one_more_moved}
use Rattle.col_text.proofs.ends.Ends.extend_each.Goals as goal

pub loop-i-preserved : goal.loop-i-preserved
loop-i-preserved c = record {
  added = one_more_moved c.args.self.now c.loop-i.self c.push.new.self c.args.more.now c.args.from c.loop-i.i c.get.result c.args.shift (omega arith) (omega arith) c.get.ensures c.loop-i.invariant.added (search (rules, tests));
  counted = c.loop-i.invariant.counted;
}
