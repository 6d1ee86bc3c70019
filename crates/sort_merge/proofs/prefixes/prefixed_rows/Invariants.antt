use Rattle.std.proofs.Common.{◌≡◌, map}
use Rattle.std.specs.List.{range_with_len}
use Rattle.sort_merge.specs.Prefix.{prefixed_at}
use Rattle.sort_merge.proofs.prefixes.prefixed_rows.Given as goal

-- the rows so far
abbrev pub invariant-loop-row : goal.invariant-loop-row
invariant-loop-row l = l.rows.items ≡ map (prefixed_at l.scale l.keys l.batch) (range_with_len 0 l.row)
