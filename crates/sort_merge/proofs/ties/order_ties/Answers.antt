use Rattle.std.proofs.Common.{arith}
use Rattle.batch_places.specs.BatchRow.{has_row, row_at}
use Rattle.sort_merge.proofs.TieLaws.{IsOrderedTo-none, IsOrderedTo-length, IsOrderedTo-more, IsOrderedTo-all}
use Rattle.sort_merge.proofs.ties.order_ties.Goals as goal

pub loop-from-init : goal.loop-from-init
loop-from-init c = IsOrderedTo-none c.args.keys.now (has_row c.args.batch.now) (row_at c.args.batch.now) c.args.rows.now

pub loop-from-preserved : goal.loop-from-preserved
loop-from-preserved c =
    IsOrderedTo-more c.args.keys.now (has_row c.args.batch.now) (row_at c.args.batch.now) c.args.rows.now c.loop-from.from c.loop-from.rows c.loop-from.invariant c.end_of_stretch-to.result c.order_stretch.new.rows
    c.requires.rising c.end_of_stretch-to.ensures.longer c.end_of_stretch-to.ensures.within c.end_of_stretch-to.ensures.apart c.in_ok-order_stretch.ensures.rows

pub returns-clause-arrangement : goal.returns-clause-arrangement
returns-clause-arrangement c = IsOrderedTo-all c.args.keys.now (has_row c.args.batch.now) (row_at c.args.batch.now) c.args.rows.now c.loop-from.from c.loop-from.rows (omega arith) c.loop-from.invariant

pub returns-clause-count : goal.returns-clause-count
returns-clause-count c = IsOrderedTo-length c.args.keys.now (has_row c.args.batch.now) (row_at c.args.batch.now) c.args.rows.now c.loop-from.from c.loop-from.rows c.loop-from.invariant
