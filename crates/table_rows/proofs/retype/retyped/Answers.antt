use Rattle.std.proofs.Common.{◌≡◌, ◌∙◌, List, length, map, sym, ap, subst}
use Rattle.std.specs.List.{All}
use Rattle.std.proofs.lemmas.List.{length-map}
use Rattle.batch.specs.declared.column.Column.{Column}
use Rattle.batch.specs.Column.{column_values}
use Rattle.batch.specs.ColumnValues.{values_of}
use Rattle.table_rows.proofs.RetypeLaws.{all_written, sized_same}
use Rattle.table_rows.proofs.retype.retyped.Goals as goal

pub invariant_of-result : goal.invariant_of-result
invariant_of-result c =
    let batch = c.args.batch in
    let new = c.retype_columns.new.columns in
    let old = batch.columns.items in
    let same : map column_values new ≡ map column_values old = c.retype_columns.ensures.values ∙ ap (map column_values) c.deref_mut.ensures.value in
    let long : length new ≡ length old = sym (length-map new column_values) ∙ ap length same ∙ length-map old column_values in
    let Sized : List Column → Type 0 = λ columns. All (λ column. length (values_of column.values) ≡ batch.rows) columns in
    record { sized = subst Sized (sym (all_written new old batch.columns.len long batch.columns.ok.0)) (sized_same batch.rows new old same batch.sized) }
