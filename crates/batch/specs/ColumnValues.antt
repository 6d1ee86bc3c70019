-- The values of a column, and how they are stored.
use Rattle.std.specs.Prelude.{List, map}
use Rattle.sub_types.specs.declared.kind.Kind.{Kind}
use Rattle.sub_types.specs.declared.kind.Kind.TheVariants as kinds
use Rattle.sub_types.specs.declared.value.Value.{Value}
use Rattle.sub_types.specs.Nullable.{bool_value, int_value, dec_value, bytes_value}
use Rattle.batch.specs.declared.column_data.ColumnData.{ColumnData}
use Rattle.batch.specs.declared.column_data.ColumnData.TheVariants as stored
use Rattle.batch.specs.declared.storage.Storage.{Storage}
use Rattle.batch.specs.declared.storage.Storage.TheVariants as storages

-- the values of a column
abbrev pub values_of : ColumnData → List Value
values_of (stored.Bool column) = map bool_value column
values_of (stored.I8 column) = map int_value column
values_of (stored.I16 column) = map int_value column
values_of (stored.I32 column) = map int_value column
values_of (stored.I64 column) = map int_value column
values_of (stored.I128 column) = map dec_value column
values_of (stored.Bytes column) = map bytes_value column

-- how a column is stored
abbrev pub storage_of : ColumnData → Storage
storage_of (stored.Bool column) = storages.Bool
storage_of (stored.I8 column) = storages.I8
storage_of (stored.I16 column) = storages.I16
storage_of (stored.I32 column) = storages.I32
storage_of (stored.I64 column) = storages.I64
storage_of (stored.I128 column) = storages.I128
storage_of (stored.Bytes column) = storages.Bytes

-- how the values of a kind are stored
abbrev pub kind_storage : Kind → Storage
kind_storage kinds.Bool = storages.Bool
kind_storage kinds.I8 = storages.I8
kind_storage kinds.I16 = storages.I16
kind_storage kinds.I32 = storages.I32
kind_storage kinds.I64 = storages.I64
kind_storage kinds.Text = storages.Bytes
kind_storage kinds.Binary = storages.Bytes
kind_storage kinds.Date = storages.I32
kind_storage kinds.Timestamp = storages.I64
kind_storage (kinds.Decimal precision scale) = storages.I128
