-- The values of the first columns.
use Rattle.std.proofs.Common.{◌≡◌, map, take}
use Rattle.sub_types.specs.Rows.{across}
use Rattle.sub_types.specs.declared.value.Value.TheVariants.{Null}
use Rattle.batch_nodes.specs.Found.{found_values}
use Rattle.batch_calls.proofs.apply.values_across.Given as goal

abbrev pub invariant-loop-column : goal.invariant-loop-column
invariant-loop-column l = l.values.items ≡ across Null (map found_values (take l.column-index l.columns)) l.i
