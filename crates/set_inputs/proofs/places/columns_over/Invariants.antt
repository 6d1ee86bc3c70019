use Rattle.std.proofs.Common.{◌≡◌, map}
use Rattle.std.specs.List.{range_with_len}
use Rattle.set_inputs.specs.Inputs.{column_over}
use Rattle.set_inputs.proofs.places.columns_over.Given as goal

-- the columns so far
abbrev pub invariant-loop-place : goal.invariant-loop-place
invariant-loop-place l = l.columns.items ≡ map (column_over l.nulls l.set) (range_with_len 0 l.place)
