use Rattle.std.proofs.Common.{◌≡◌, map, take}
use Rattle.batch.specs.Column.{column_values, column_type}
use Rattle.table_rows.specs.Read.{kinds_of}
use Rattle.table_rows.proofs.retype.retype_columns.Given as goal

abbrev pub invariant-loop-i : goal.invariant-loop-i
invariant-loop-i l = record {
  kinds : kinds_of (map column_type l.columns) ≡ kinds_of l.types;
  values : map column_values l.columns ≡ map column_values l.initial.columns;
  types : take l.i (map column_type l.columns) ≡ take l.i l.types;
}
