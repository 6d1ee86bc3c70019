use Rattle.std.proofs.Common.{◌≡◌, length, arith}
use Rattle.row_batches.proofs.ColumnLaws.{all-fit-at, MadeColumns-none, MadeColumns-more, MadeColumns-rows, MadeColumns-types}
use Rattle.row_batches.proofs.batches.rows_to_batch.Goals as goal

pub loop-index-init : goal.loop-index-init
loop-index-init c = rw c.new-columns.ensures.items (MadeColumns-none c.args.types.now c.args.rows.now)

pub column_at-requires-clause-hold : goal.column_at-requires-clause-hold
column_at-requires-clause-hold c = all-fit-at c.args.types.now c.args.rows.now c.loop-index.index _ c.loop-index-test.true c.requires.fit

pub loop-index-preserved : goal.loop-index-preserved
loop-index-preserved c =
    let column = c.in_ok-column_at.field-0 in
    rw c.in_ok-push.ensures.items (MadeColumns-more c.args.types.now c.args.rows.now c.loop-index.columns.items c.loop-index.index column _ c.loop-index-test.true c.in_ok-column_at.ensures.values c.in_ok-column_at.ensures.ty c.loop-index.invariant)

pub invariant_of-result : goal.invariant_of-result
invariant_of-result c = record { sized = c.loop-index.invariant.sized }

pub returns-clause-rows : goal.returns-clause-rows
returns-clause-rows c =
    let done : c.loop-index.index ≡ length c.args.types.now = omega arith in
    MadeColumns-rows c.args.types.now c.args.rows.now c.loop-index.columns.items c.loop-index.index done c.requires.fit c.loop-index.invariant

pub returns-clause-types : goal.returns-clause-types
returns-clause-types c =
    let done : c.loop-index.index ≡ length c.args.types.now = omega arith in
    MadeColumns-types c.args.types.now c.args.rows.now c.loop-index.columns.items c.loop-index.index done c.loop-index.invariant
