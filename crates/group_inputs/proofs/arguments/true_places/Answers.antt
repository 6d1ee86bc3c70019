use Rattle.std.proofs.Common.{◌∙◌, ap, sym, length}
use Rattle.std.specs.List.{range_with_len}
use Rattle.batch.specs.ColumnValues.{values_of}
use Rattle.batch.specs.declared.column_data.ColumnData.{ColumnData}
use Rattle.group_inputs.specs.Taking.{places_in}
use Rattle.group_inputs.proofs.ChosenLaws.{places_are}
use Rattle.group_inputs.proofs.arguments.true_places.Goals as goal

pub returns-in_ok-select-in-Bool : goal.returns-in_ok-select-in-Bool
returns-in_ok-select-in-Bool c =
    c.in_ok-select-in-Bool.ensures ∙ places_are c.in-Bool.tests
    ∙ ap (λ (values : ColumnData). places_in (range_with_len 0 (length (values_of values))) (values_of values)) (sym c.in-Bool.is)
