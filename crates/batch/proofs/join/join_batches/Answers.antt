use Rattle.std.proofs.Common.{◌≡◌, length, arith}
use Rattle.batch.proofs.JoinLaws.{JoinedColumns-more, JoinedColumns-sized, JoinedColumns-rows}
use Rattle.batch.proofs.join.join_batches.Goals as goal

pub loop-index-preserved : goal.loop-index-preserved
loop-index-preserved c =
    rw c.in_ok-push.ensures.items (JoinedColumns-more c.args.types.now c.args.parts.now c.loop-index.columns.items c.loop-index.index c.in_ok-join_column.field-0 c.loop-index-test.true c.in_ok-join_column.ensures.values c.in_ok-join_column.ensures.ty c.loop-index.invariant)

pub invariant_of-result : goal.invariant_of-result
invariant_of-result c =
    let done : c.loop-index.index ≡ length c.args.types.now = omega arith in
    record { sized = JoinedColumns-sized c.args.types.now c.args.parts.now c.loop-index.columns.items c.loop-index.index c.total_rows-rows.result done c.total_rows-rows.ensures c.requires.alike c.loop-index.invariant }

pub returns-clause-rows : goal.returns-clause-rows
returns-clause-rows c =
    let done : c.loop-index.index ≡ length c.args.types.now = omega arith in
    JoinedColumns-rows c.args.types.now c.args.parts.now c.loop-index.columns.items c.loop-index.index c.total_rows-rows.result done c.total_rows-rows.ensures c.requires.alike c.loop-index.invariant
