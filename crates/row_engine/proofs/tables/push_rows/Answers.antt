use Rattle.std.proofs.Common.{◌≡◌, ◌∙◌, ◌++◌, ◌+◌, ◌<◌, length, drop, sym, ap, subst, arith}
use Rattle.batch.specs.BatchRows.{rows_of}
use Rattle.row_engine.proofs.BatchLaws.{rows_length, one_row, no_more}
use Rattle.row_engine.proofs.tables.push_rows.Goals as goal

pub loop-row-preserved : goal.loop-row-preserved
loop-row-preserved c =
    let rows = rows_of c.args.batch.now in
    let there : c.loop-row.row < length rows = subst (λ n. c.loop-row.row < n) (sym (rows_length c.args.batch.now)) c.loop-row-test.true in
    ap (λ all. all ++ drop (c.loop-row.row + 1) rows) c.in_ok-push.ensures.ok
    ∙ one_row c.loop-row.rows rows c.loop-row.row c.in_ok-row_at.field-0 there c.in_ok-row_at.ensures ∙ c.loop-row.invariant

pub returns : goal.returns
returns c =
    let rows = rows_of c.args.batch.now in
    let at_end : c.loop-row.row ≡ c.args.batch.now.rows = omega (arith, c.loop-row-test.false, c.loop-row.auto.row-end) in
    no_more c.loop-row.rows rows c.loop-row.row (at_end ∙ sym (rows_length c.args.batch.now)) ∙ c.loop-row.invariant
