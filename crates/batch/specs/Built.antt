-- The values of a column that grow, and how they are stored.
use Rattle.std.specs.Prelude.{List, map, FitsSigned}
use Rattle.std.specs.Int.{w8, w16, w32}
use Rattle.sub_types.specs.declared.value.Value.{Value}
use Rattle.sub_types.specs.declared.value.Value.TheVariants as values
use Rattle.batch.specs.declared.data_builder.DataBuilder.{DataBuilder}
use Rattle.batch.specs.declared.data_builder.DataBuilder.TheVariants as built_as
use Rattle.batch.specs.declared.storage.Storage.{Storage}
use Rattle.batch.specs.declared.storage.Storage.TheVariants as storages
use Rattle.sub_types.specs.Nullable.{bool_value, int_value, dec_value, bytes_value}

-- the values so far
abbrev pub built : DataBuilder → List Value
built (built_as.Bool column) = map bool_value column
built (built_as.I8 column) = map int_value column
built (built_as.I16 column) = map int_value column
built (built_as.I32 column) = map int_value column
built (built_as.I64 column) = map int_value column
built (built_as.I128 column) = map dec_value column
built (built_as.Bytes column) = map bytes_value column

-- how they are stored
abbrev pub built_storage : DataBuilder → Storage
built_storage (built_as.Bool column) = storages.Bool
built_storage (built_as.I8 column) = storages.I8
built_storage (built_as.I16 column) = storages.I16
built_storage (built_as.I32 column) = storages.I32
built_storage (built_as.I64 column) = storages.I64
built_storage (built_as.I128 column) = storages.I128
built_storage (built_as.Bytes column) = storages.Bytes

-- a value that can be stored so
abbrev pub IsStored : Storage → Value → Type 0
IsStored _ values.Null = Unit {0}
IsStored storages.Bool (values.Bool b) = Unit {0}
IsStored storages.I8 (values.Int n) = FitsSigned w8 n
IsStored storages.I16 (values.Int n) = FitsSigned w16 n
IsStored storages.I32 (values.Int n) = FitsSigned w32 n
IsStored storages.I64 (values.Int n) = Unit {0}
IsStored storages.I128 (values.Dec n) = Unit {0}
IsStored storages.Bytes (values.Bytes bytes) = Unit {0}
IsStored _ _ = ⊥
