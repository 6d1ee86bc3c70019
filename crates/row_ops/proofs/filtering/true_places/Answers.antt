use Rattle.std.proofs.Common.{◌∙◌, ap, sym, length}
use Rattle.std.specs.List.{range_with_len}
use Rattle.batch.specs.ColumnValues.{values_of}
use Rattle.batch.specs.declared.column_data.ColumnData.{ColumnData}
use Rattle.row_ops.specs.Stepped.{chosen_by}
use Rattle.row_ops.proofs.PlaceLaws.{places_are}
use Rattle.row_ops.proofs.filtering.true_places.Goals as goal

pub returns-in_ok-select-in-Bool : goal.returns-in_ok-select-in-Bool
returns-in_ok-select-in-Bool c =
    c.in_ok-select-in-Bool.ensures ∙ places_are c.in-Bool.tests
    ∙ ap (λ (values : ColumnData). chosen_by (range_with_len 0 (length (values_of values))) (values_of values)) (sym c.in-Bool.is)
