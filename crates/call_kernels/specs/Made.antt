-- What kernels make of columns.
use Rattle.std.specs.Prelude.{◌≡◌, ℕ, List, [], ◌∷◌, slice_index_or}
use Rattle.std.specs.List.{range_with_len}
use Rattle.sub_types.specs.declared.kind.Kind.{Kind}
use Rattle.sub_types.specs.declared.kind.Ty.{Ty}
use Rattle.sub_types.specs.declared.value.Value.{Value}
use Rattle.sub_types.specs.declared.value.Value.TheVariants.{Null}
use Rattle.plan_typed.specs.declared.expr.Func.{Func}
use Rattle.plan_typed.specs.declared.expr.Overflow.{Overflow}
use Rattle.plan_denote.specs.Calls.{applied}
use Rattle.plan_denote.specs.Computed.{Computed}
use Rattle.batch.specs.ColumnValues.{values_of}
use Rattle.batch.specs.declared.column.Column.{Column}
use Rattle.kernels.specs.declared.selection.Stop.{Stop}
use Rattle.kernels.specs.Until.{until}

-- what a function makes of the values of two lists at a place
abbrev pub at_places : (Value → Value → Computed) → List Value → List Value → ℕ → Computed
at_places f a b i = f (slice_index_or a i Null) (slice_index_or b i Null)

-- a function of two values, and one of the first of two
abbrev pub applied_two : Func → Kind → Overflow → List Kind → Value → Value → Computed
applied_two func kind mode given a b = applied func kind mode given (a ∷ b ∷ [])

abbrev pub applied_one : Func → Kind → Overflow → List Kind → Value → Value → Computed
applied_one func kind mode given a b = applied func kind mode given (a ∷ [])

-- the same of three
abbrev pub at_three : (Value → Value → Value → Computed) → List Value → List Value → List Value → ℕ → Computed
at_three f a b c i = f (slice_index_or a i Null) (slice_index_or b i Null) (slice_index_or c i Null)

abbrev pub applied_three : Func → Kind → Overflow → List Kind → Value → Value → Value → Computed
applied_three func kind mode given a b c = applied func kind mode given (a ∷ b ∷ c ∷ [])

-- the values and the stop are what this gives at the first so many places, and the column is of the type
pub record IsMade (f : ℕ → Computed) (n : ℕ) (ty : Ty) (column : Column) (stop : Stop) : Type 0 where
  pub values : values_of column.values ≡ (until f (range_with_len 0 n)).values
  pub stop_is : stop ≡ (until f (range_with_len 0 n)).stop
  pub ty_is : column.ty ≡ ty
