use Rattle.std.proofs.Common.{◌≡◌, take}
use Rattle.row_keys.specs.Keys.{key_of}
use Rattle.group_numbers.proofs.keys.key_at.Given as goal

-- the values so far
abbrev pub invariant-loop-column : goal.invariant-loop-column
invariant-loop-column l = l.key ≡ key_of (take l.column-index l.columns) l.batch l.row
