use Rattle.std.proofs.Common.{◌≡◌, take}
use Rattle.std.specs.List.{flat_map, sum_by}
use Rattle.plan_tables.specs.Open.{table_seen}
use Rattle.plan_tables.proofs.counts.count_blocks.Given as goal

-- the blocks of the tables so far
abbrev pub invariant-loop-table : goal.invariant-loop-table
invariant-loop-table g l = l.count ≡ sum_by (λ file. file.blocks) (flat_map (table_seen g.R.Reader.bytes) (take l.table-index l.tables))
