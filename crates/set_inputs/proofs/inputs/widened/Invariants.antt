use Rattle.std.proofs.Common.{◌≡◌, ◌++◌, ◌∷◌, length, map, drop, replicate, All}
use Rattle.sub_types.specs.declared.value.Value.TheVariants.{Null}
use Rattle.batch.specs.Column.{column_values}
use Rattle.batch.specs.ColumnValues.{values_of}
use Rattle.group_laws.specs.Columns.{zipped}
use Rattle.set_inputs.specs.Inputs.{values_once}
use Rattle.set_inputs.proofs.inputs.widened.Given as goal

-- the columns so far, and the measures that are left
abbrev pub invariant-loop-place : goal.invariant-loop-place
invariant-loop-place l = record {
  sized : All (λ column. length (values_of column.values) ≡ l.rows) l.columns.items;
  values : map column_values l.columns.items ++ zipped (λ measure one. values_once l.rows measure.distinct one) (drop l.place l.measures) (drop l.place l.taken)
      ≡ map column_values l.fn.columns.items ++ replicate l.rows Null ∷ zipped (λ measure one. values_once l.rows measure.distinct one) l.measures l.taken;
}
