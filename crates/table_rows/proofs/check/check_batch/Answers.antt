use Rattle.std.proofs.Common.{◌≡◌, ◌∙◌, ◌<◌, ◌-◌, [], length, take, sym, ap, arith}
use Rattle.sub_types.specs.Stream.{rows_alone}
use Rattle.batch.specs.BatchRows.{rows_of}
use Rattle.table_rows.specs.Read.{row_fault}
use Rattle.table_rows.proofs.EachLaws.{each_clean, each_first, stopped}
use Rattle.table_rows.proofs.FitLaws.{length-rows, row_at, rows_same, all_fit, clean_rows, clean_before, clean_taken}
use Rattle.table_rows.proofs.check.check_batch.Goals as goal

pub returns-in_default-clause-stream : goal.returns-in_default-clause-stream
returns-in_default-clause-stream c =
    let batch = c.args.batch in
    let types = c.args.types.now in
    ap rows_alone (rows_same c.retyped.result batch c.retyped.ensures.columns c.retyped.ensures.count)
    ∙ sym (each_clean c.args.relation types (rows_of batch) (clean_rows types batch c.in_default.ensures))

pub returns-in_default-clause-fit : goal.returns-in_default-clause-fit
returns-in_default-clause-fit c =
    let batch = c.args.batch in
    let types = c.args.types.now in
    all_fit types c.retyped.result (rows_of batch) c.retyped.ensures.types (rows_same c.retyped.result batch c.retyped.ensures.columns c.retyped.ensures.count) (clean_rows types batch c.in_default.ensures)

pub returns-clause-stream : goal.returns-clause-stream
returns-clause-stream c =
    let batch = c.args.batch in
    let types = c.args.types.now in
    let found = c.in-Some.found in
    let first = c.in-Some.ensures in
    let inside : found.row < batch.rows = first.within in
    let listed : found.row < length (rows_of batch) = omega (arith, length-rows batch) in
    let count : found.row - 0 ≡ found.row = omega arith in
    ap (stopped c.args.relation found.kind)
    (rows_same c.retyped-2.result c.in_ok-before.before c.retyped-2.ensures.columns c.retyped-2.ensures.count ∙ c.in_ok-before.ensures.rows ∙ ap (λ n. take n (rows_of batch)) count)
    ∙ sym (each_first c.args.relation types (rows_of batch) found.row found.kind listed (ap (row_fault types) (row_at batch found.row [] inside) ∙ first.here) (clean_before types batch found.row inside first.none_before))

pub returns-clause-fit : goal.returns-clause-fit
returns-clause-fit c =
    let batch = c.args.batch in
    let types = c.args.types.now in
    let found = c.in-Some.found in
    let first = c.in-Some.ensures in
    let inside : found.row < batch.rows = first.within in
    let listed : found.row < length (rows_of batch) = omega (arith, length-rows batch) in
    let count : found.row - 0 ≡ found.row = omega arith in
    all_fit types c.retyped-2.result (take found.row (rows_of batch)) c.retyped-2.ensures.types
    (rows_same c.retyped-2.result c.in_ok-before.before c.retyped-2.ensures.columns c.retyped-2.ensures.count ∙ c.in_ok-before.ensures.rows ∙ ap (λ n. take n (rows_of batch)) count)
    (clean_taken types (rows_of batch) found.row listed (clean_before types batch found.row inside first.none_before))
