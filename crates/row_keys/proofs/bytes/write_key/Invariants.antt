use Rattle.std.proofs.Common.{◌≡◌, take, All}
use Rattle.row_keys.specs.Keys.{key_of}
use Rattle.row_keys.specs.KeyBytes.{bytes_of_key, IsHeld}
use Rattle.row_keys.proofs.bytes.write_key.Given as goal

-- the values so far are written
abbrev pub invariant-loop-column : goal.invariant-loop-column
invariant-loop-column l = (l.bytes.items ≡ bytes_of_key (key_of (take l.column-index l.columns) l.batch l.row)) × All IsHeld (key_of (take l.column-index l.columns) l.batch l.row)
