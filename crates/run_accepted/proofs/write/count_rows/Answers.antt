use Rattle.std.proofs.Common.{ap, arith}
use Rattle.std.specs.List.{sum_by}
use Rattle.std.proofs.lemmas.List.{take_all}
use Rattle.std.proofs.lemmas.List.Sums.{sum_by_more_le}
use Rattle.batch.specs.declared.batch.Batch.{Batch}
use Rattle.run_accepted.proofs.RowLaws.{length_rows}
use Rattle.run_accepted.proofs.write.count_rows.Goals as goal

pub returns-then-batch-left : goal.returns-then-batch-left
returns-then-batch-left c =
    let batches = c.args.batches.now in
    let i = c.loop-batch.batch-index in
    let batch = c.batch-item.result in
    let here = ap (λ (one : Batch). one.rows) c.batch-item.is in
    let more = sum_by_more_le (λ (one : Batch). one.rows) batches i batch c.loop-batch-test.true in
    omega (arith, c.loop-batch.invariant, c.if-batch-left.true, more, here, length_rows batches)

pub returns : goal.returns
returns c =
    let batches = c.args.batches.now in
    let all = ap (sum_by (λ (one : Batch). one.rows)) (take_all c.loop-batch.batch-index batches c.loop-batch-test.false) in
    (omega (arith, c.loop-batch.invariant, all, length_rows batches), omega arith)
