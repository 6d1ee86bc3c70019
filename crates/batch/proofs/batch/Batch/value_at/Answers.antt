-- A value of a row is that of its column.
use Rattle.std.proofs.Common.{◌≡◌, ◌∙◌, [], ap, sym, get_or, arith}
use Rattle.std.proofs.lemmas.List.{get_or-map}
use Rattle.sub_types.specs.declared.value.Value.TheVariants.{Null}
use Rattle.batch.specs.BatchRows.{columns_of, rows_of}
use Rattle.batch.specs.ColumnValues.{values_of}
use Rattle.batch.specs.Column.{column_values}
use Rattle.batch.proofs.RowLaws.{get_or-transpose, get_or-across}
use Rattle.batch.proofs.batch.Batch.value_at.Goals as goal

pub returns-clause-of_row : goal.returns-clause-of_row
returns-clause-of_row c =
    let batch = c.args.self.now in
    let column = c.index-column.result.now in
    let of_row : get_or (get_or (rows_of batch) c.args.row []) c.args.column Null ≡ get_or (get_or (columns_of batch) c.args.column []) c.args.row Null =
    ap (λ row. get_or row c.args.column Null) (get_or-transpose Null batch.rows c.args.row (columns_of batch) [] c.requires.row_exists) ∙ get_or-across Null (columns_of batch) c.args.row c.args.column in
    let of_column : get_or (columns_of batch) c.args.column [] ≡ values_of column.values =
    get_or-map column_values batch.columns.items c.args.column column [] (omega (arith, c.requires.column_exists, batch.columns.ok)) ∙ ap column_values (sym c.index-column.ensures) in
    rw (of_row, of_column) c.value_at.ensures
