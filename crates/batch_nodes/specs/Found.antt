-- The values of an expression at some rows, made or lent.
use Rattle.std.specs.Prelude.{◌≡◌, ℕ, List, [], map, replicate, take, slice_index_or}
use Rattle.sub_types.specs.Kind.{IsKind}
use Rattle.sub_types.specs.Value.{InKind}
use Rattle.sub_types.specs.declared.kind.Kind.{Kind}
use Rattle.sub_types.specs.declared.value.Value.{Value}
use Rattle.plan_denote.specs.Computed.{Computed}
use Rattle.batch.specs.ColumnValues.{values_of}
use Rattle.kernels.specs.declared.selection.Stop.{Stop}
use Rattle.kernels.specs.declared.selection.Stop.TheVariants.{Never}
use Rattle.kernels.specs.Until.{Until, until}
use Rattle.batch_nodes.specs.declared.found.Found.{Found}
use Rattle.batch_nodes.specs.declared.found.Found.TheVariants.{Made, Whole, Constant}

-- the values
abbrev pub found_values : Found → List Value
found_values (Made column) = values_of column.values
found_values (Whole column n) = take n (values_of column.now.values)
found_values (Constant value n) = replicate n value.now

-- they are of this kind
abbrev pub IsOfKind : Kind → Found → Type 0
IsOfKind kind (Made column) = kind ≡ column.ty.kind
IsOfKind kind (Whole column n) = kind ≡ column.now.ty.kind
IsOfKind kind (Constant value n) = IsKind kind × InKind kind value.now

-- the values and the stop are what this gives at these rows, and the values are of a kind
pub record IsUntil (f : ℕ → Computed) (rows : List ℕ) (of : Kind) (found : Found) (ended : Stop) : Type 0 where
  pub values : found_values found ≡ (until f rows).values
  pub stop : ended ≡ (until f rows).stop
  pub kind : IsOfKind of found

-- the values and the stop of each of several
abbrev pub seen : Found × Stop → Until Value
seen one = record { values = found_values one.0; stop = one.1 }

abbrev pub found_at : List (Found × Stop) → ℕ → Until Value
found_at all j = slice_index_or (map seen all) j (record { values = []; stop = Never })
