use Rattle.std.proofs.Common.{◌≡◌, Some, length, map, take}
use Rattle.std.specs.List.{All}
use Rattle.arrow_meta.specs.Batch.{column_in}
use Rattle.sub_types.specs.OptionSteps.{all_of}
use Rattle.batch.specs.Column.{column_values, column_type}
use Rattle.batch.specs.ColumnValues.{values_of}
use Rattle.arrow_decode.specs.Seen.{wanted_with, wanted_type}
use Rattle.arrow_decode.proofs.decoding.wanted_columns.Given as goal

abbrev pub invariant-loop-one : goal.invariant-loop-one
invariant-loop-one l = record {
  columns : all_of (map (λ w. column_in l.shapes l.meta l.body l.count (wanted_with l.dictionaries w)) (take l.one-index l.wanted)) ≡ Some (map column_values l.columns.items);
  types : map column_type l.columns.items ≡ map wanted_type (take l.one-index l.wanted);
  long : All (λ column. length (values_of column.values) ≡ l.count) l.columns.items;
}
