use Rattle.std.proofs.Common.{◌∙◌, List, [], map, ap, slice_index_or}
use Rattle.sub_types.specs.declared.value.Value.{Value}
use Rattle.batch.specs.declared.column.Column.{Column}
use Rattle.batch.specs.Column.{column_values}
use Rattle.group_numbers.proofs.WholeLaws.{numbered_keys}
use Rattle.group_numbers.proofs.numbers.batch_of_numbers.Goals as goal

pub returns-clause-keys : goal.returns-clause-keys
returns-clause-keys c =
    let first : List Column → List Value = λ columns. slice_index_or (map column_values columns) 0 [] in
    numbered_keys c.args.numbers.now (first c.in_ok-columns.columns.items) (ap first c.in_ok-columns.ensures.items ∙ c.in_ok-column_of_numbers.ensures)
