-- The values of a column or of a part of one, lent, and how they are stored.
use Rattle.std.specs.Prelude.{List, map}
use Rattle.sub_types.specs.declared.value.Value.{Value}
use Rattle.sub_types.specs.Nullable.{bool_value, int_value, dec_value, bytes_value}
use Rattle.batch.specs.declared.data_view.DataView.{DataView}
use Rattle.batch.specs.declared.data_view.DataView.TheVariants as lent_as
use Rattle.batch.specs.declared.storage.Storage.{Storage}
use Rattle.batch.specs.declared.storage.Storage.TheVariants as storages

-- the values that are lent
abbrev pub lent : DataView → List Value
lent (lent_as.Bool part) = map bool_value part
lent (lent_as.I8 part) = map int_value part
lent (lent_as.I16 part) = map int_value part
lent (lent_as.I32 part) = map int_value part
lent (lent_as.I64 part) = map int_value part
lent (lent_as.I128 part) = map dec_value part
lent (lent_as.Bytes part) = map bytes_value part

-- how they are stored
abbrev pub lent_storage : DataView → Storage
lent_storage (lent_as.Bool part) = storages.Bool
lent_storage (lent_as.I8 part) = storages.I8
lent_storage (lent_as.I16 part) = storages.I16
lent_storage (lent_as.I32 part) = storages.I32
lent_storage (lent_as.I64 part) = storages.I64
lent_storage (lent_as.I128 part) = storages.I128
lent_storage (lent_as.Bytes part) = storages.Bytes
