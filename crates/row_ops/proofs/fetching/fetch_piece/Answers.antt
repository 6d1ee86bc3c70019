use Rattle.std.proofs.Common.{◌≡◌, ◌∙◌, length, sym, ap, arith}
use Rattle.sub_types.specs.declared.value.Value.TheVariants.{Null}
use Rattle.plan_denote.specs.Fetch.{end_of_window}
use Rattle.batch.specs.BatchRows.{rows_of, columns_of, stream_of_piece}
use Rattle.batch.proofs.RowLaws.{length-transpose}
use Rattle.row_ops.specs.Windows.{window_start, window_end}
use Rattle.row_ops.proofs.WindowLaws.{window_is, window_whole, fetched_is}
use Rattle.row_ops.proofs.fetching.fetch_piece.Goals as goal

pub returns-then-to-batch-clause-stream : goal.returns-then-to-batch-clause-stream
returns-then-to-batch-clause-stream c =
    let batch = c.args.piece.batch in
    let offset = c.args.offset in
    let count = c.args.count in
    let many : batch.rows ≡ length (rows_of batch) = sym (length-transpose Null batch.rows (columns_of batch)) in
    fetched_is offset count (stream_of_piece c.args.piece) (rows_of batch) c.end_of-end.result
    (window_whole offset count (rows_of batch) c.start_of-from.result c.end_from-to.result (c.start_of-from.ensures ∙ ap (window_start offset) many) (c.end_from-to.ensures ∙ ap (window_end c.start_of-from.result count) many) (omega (arith, c.if-from-eq0.true)) (omega (arith, c.if-to-batch.true, many)))
    (c.end_of-end.ensures ∙ ap (λ n. end_of_window offset count n c.args.piece.end) many)

pub returns-clause-stream : goal.returns-clause-stream
returns-clause-stream c =
    let batch = c.args.piece.batch in
    let offset = c.args.offset in
    let count = c.args.count in
    let many : batch.rows ≡ length (rows_of batch) = sym (length-transpose Null batch.rows (columns_of batch)) in
    fetched_is offset count (stream_of_piece c.args.piece) (rows_of c.in_ok-batch.batch) c.end_of-end.result
    (c.in_ok-batch.ensures.rows ∙ window_is offset count (rows_of batch) c.start_of-from.result c.end_from-to.result (c.start_of-from.ensures ∙ ap (window_start offset) many) (c.end_from-to.ensures ∙ ap (window_end c.start_of-from.result count) many))
    (c.end_of-end.ensures ∙ ap (λ n. end_of_window offset count n c.args.piece.end) many)
