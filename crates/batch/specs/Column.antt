-- The values and the type of a column.
use Rattle.std.specs.Prelude.{List}
use Rattle.sub_types.specs.declared.kind.Ty.{Ty}
use Rattle.sub_types.specs.declared.value.Value.{Value}
use Rattle.batch.specs.declared.column.Column.{Column}
use Rattle.batch.specs.ColumnValues.{values_of}

-- the values of a column
abbrev pub column_values : Column → List Value
column_values column = values_of column.values

-- its type
abbrev pub column_type : Column → Ty
column_type column = column.ty
