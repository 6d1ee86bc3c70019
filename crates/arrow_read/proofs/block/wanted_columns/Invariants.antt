use Rattle.std.proofs.Common.{◌≡◌, Some, map, take}
use Rattle.arrow_read.specs.Known.{known_column}
use Rattle.arrow_read.proofs.block.wanted_columns.Given as goal

abbrev pub invariant-loop-column : goal.invariant-loop-column
invariant-loop-column l = map Some l.found.items ≡ map (known_column l.columns) (take l.column-index l.wanted)
