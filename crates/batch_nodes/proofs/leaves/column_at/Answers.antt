-- Where the rows are all up to one, their values are the column's first.
use Rattle.std.proofs.Common.{◌≡◌, ◌∙◌, ◌<◌, ◌≤◌, length, take, sym, ap, subst, arith}
use Rattle.std.specs.List.{All, range_with_len}
use Rattle.sub_types.specs.Rows.{picked}
use Rattle.sub_types.specs.declared.value.Value.TheVariants.{Null}
use Rattle.batch.specs.Column.{column_values}
use Rattle.batch_nodes.proofs.ColumnLaws.{values_are, values_long, kind_at}
use Rattle.batch_nodes.proofs.FoundLaws.{picked-first, rows_within}
use Rattle.batch_nodes.proofs.leaves.column_at.Goals as goal

pub returns-in-None-clause-values : goal.returns-in-None-clause-values
returns-in-None-clause-values c =
    let batch = c.args.batch.now in
    let column = c.index-column.result.now in
    let rows = c.args.rows.now in
    let xs = column_values column in
    let there : c.args.index < length batch.columns.items = omega (arith, c.requires.there, batch.columns.ok) in
    let exist = subst (All (λ row. row < batch.rows)) c.in-None.ensures c.requires.exist in
    let within : length rows ≤ length xs = omega (arith, rows_within (length rows) batch.rows exist, values_long batch c.args.index column there c.index-column.ensures) in
    ap (λ n. take n xs) c.len.ensures
    ∙ picked-first Null (length rows) xs within
    ∙ ap (λ at. picked Null at xs) (sym c.in-None.ensures)
    ∙ ap (picked Null rows) (values_are batch c.args.index column there c.index-column.ensures)

pub returns-in-None-clause-kind : goal.returns-in-None-clause-kind
returns-in-None-clause-kind c ty found = kind_at c.args.batch.now c.args.index c.index-column.result.now ty c.index-column.ensures found
