use Rattle.std.proofs.Common.{◌≡◌, ◌∙◌, ◌++◌, ◌+◌, ◌<◌, length, drop, sym, ap, subst, arith}
use Rattle.row_engine.proofs.BatchLaws.{row_in, row_length, one_value, all_values}
use Rattle.row_engine.proofs.tables.row_at.Goals as goal

pub loop-column-preserved : goal.loop-column-preserved
loop-column-preserved c =
    let batch = c.args.batch.now in
    let row = row_in batch c.args.row in
    let len : c.len-column-end.result ≡ length row = c.len-column-end.ensures ∙ batch.columns.ok.0 ∙ sym (row_length batch c.args.row c.requires) in
    let there : c.loop-column.column < length row = subst (λ n. c.loop-column.column < n) len c.loop-column-test.true in
    ap (λ values. values ++ drop (c.loop-column.column + 1) row) c.in_ok-push.ensures.ok
    ∙ one_value c.loop-column.values row c.loop-column.column c.in_ok-value_at.field-0 there c.in_ok-value_at.ensures.of_row ∙ c.loop-column.invariant

pub returns : goal.returns
returns c =
    let batch = c.args.batch.now in
    let row = row_in batch c.args.row in
    let len : c.len-column-end.result ≡ length row = c.len-column-end.ensures ∙ batch.columns.ok.0 ∙ sym (row_length batch c.args.row c.requires) in
    let at_end : c.loop-column.column ≡ c.len-column-end.result = omega (arith, c.loop-column-test.false, c.loop-column.auto.column-end) in
    all_values c.loop-column.values row c.loop-column.column (at_end ∙ len) c.loop-column.invariant
