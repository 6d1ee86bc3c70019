use Rattle.std.proofs.Common.{◌≡◌, take}
use Rattle.plan_tables.specs.Open.{count_files}
use Rattle.open_blocks.proofs.apart.count_of.Given as goal

-- the files of the tables so far
abbrev pub invariant-loop-table : goal.invariant-loop-table
invariant-loop-table g l = l.count ≡ count_files (take l.table-index l.tables)
