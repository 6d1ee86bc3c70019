use Rattle.std.proofs.Common.{◌≡◌, map, take, All}
use Rattle.sub_types.specs.Kind.{IsKind}
use Rattle.batch.specs.Column.{column_type}
use Rattle.sort_merge.proofs.runs.types_in.Given as goal

-- the types so far
abbrev pub invariant-loop-column : goal.invariant-loop-column
invariant-loop-column l = (l.types.items ≡ map column_type (take l.column-index l.batch.columns.items)) × All (λ ty. IsKind ty.kind) l.types.items
