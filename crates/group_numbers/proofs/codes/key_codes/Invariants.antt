use Rattle.std.proofs.Common.{take}
use Rattle.group_numbers.specs.Codes.{AreCodes}
use Rattle.group_numbers.proofs.codes.key_codes.Given as goal

-- the codes of the columns so far
abbrev pub invariant-loop-column : goal.invariant-loop-column
invariant-loop-column l = AreCodes (take l.column-index l.columns) l.batch l.codes.items
