-- A column that grows: its type, and the values so far.
use Rattle.std.specs.Prelude.{◌≡◌, List}
use Rattle.std.specs.List.{All}
use Rattle.sub_types.specs.Kind.{IsKind}
use Rattle.sub_types.specs.Value.{InKind}
use Rattle.sub_types.specs.declared.kind.Ty.{Ty}
use Rattle.sub_types.specs.declared.value.Value.{Value}
use Rattle.batch.specs.declared.data_builder.DataBuilder.{DataBuilder}
use Rattle.batch.specs.ColumnValues.{kind_storage}
use Rattle.batch.specs.Built.{built, built_storage}

pub record Growing : Type 0 where
  pub ty : Ty
  pub values : List Value

-- what is seen of a type and values that grow
abbrev pub growing : Ty → DataBuilder → Growing
growing ty values = record { ty = ty; values = built values }

-- the values are of the type's kind and stored so
pub record IsGrowing (ty : Ty) (values : DataBuilder) : Type 0 where
  pub valid_kind : IsKind ty.kind
  pub stored : built_storage values ≡ kind_storage ty.kind
  pub in_kind : All (InKind ty.kind) (built values)
