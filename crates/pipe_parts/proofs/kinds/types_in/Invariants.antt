use Rattle.std.proofs.Common.{◌≡◌, map, take}
use Rattle.batch.specs.Column.{column_type}
use Rattle.pipe_parts.proofs.kinds.types_in.Given as goal

-- the types of the first so many columns
abbrev pub invariant-loop-column : goal.invariant-loop-column
invariant-loop-column l = l.types.items ≡ map column_type (take l.column-index l.columns)
