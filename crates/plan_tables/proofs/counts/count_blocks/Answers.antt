use Rattle.std.proofs.Common.{ap, arith, length}
use Rattle.std.specs.List.{sum_by}
use Rattle.table_open.specs.declared.file.OpenFile.{OpenFile}
use Rattle.table_open.specs.Files.{TableFile}
use Rattle.table_open.specs.Ready.{file_seen}
use Rattle.plan_tables.specs.Open.{table_seen}
use Rattle.plan_tables.proofs.CountLaws.{sum_map, sum_more}
use Rattle.plan_tables.proofs.counts.count_blocks.Goals as goal

pub loop-table-preserved : goal.loop-table-preserved
loop-table-preserved g c =
    let bytes = g.R.Reader.bytes in
    let e = sum_more (λ (file : TableFile). file.blocks) (table_seen bytes) c.args.tables.now c.loop-table.table-index c.table-item.result c.loop-table-test.true c.table-item.is in
    let m = sum_map (λ (file : TableFile). file.blocks) (file_seen bytes) c.table-item.result.items in
    let s = ap (sum_by (λ (file : OpenFile g.row.R.Denot). length file.head.blocks.items)) c.as_slice.ensures.value in
    omega (arith, e, m, s, c.in_ok-blocks_in.ensures, c.in_ok-count.ensures, c.loop-table.invariant)
