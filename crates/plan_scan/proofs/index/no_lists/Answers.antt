use Rattle.std.proofs.Common.{subst, sym, arith}
use Rattle.plan_scan.specs.Index.{AreIndexed}
use Rattle.plan_scan.proofs.IndexLaws.{one_list_more}
use Rattle.plan_scan.proofs.index.no_lists.Goals as goal

pub loop-alloc-preserved : goal.loop-alloc-preserved
loop-alloc-preserved c = record {
  few = omega (arith, c.in_ok-push.ensures.len, c.loop-alloc-test.true, c.len.ensures);
  index = λ all. subst (λ items. AreIndexed 0 items all all) (sym c.in_ok-push.ensures.items) (one_list_more 0 c.loop-alloc.index.items c.new.result all c.new.ensures.items (c.loop-alloc.invariant.index all));
}
