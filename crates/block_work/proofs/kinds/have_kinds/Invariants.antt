use Rattle.std.proofs.Common.{◌≡◌, length, map, take}
use Rattle.batch.specs.Column.{column_type}
use Rattle.table_rows.specs.Read.{kinds_of}
use Rattle.block_work.proofs.kinds.have_kinds.Given as goal

abbrev pub invariant-loop-index : goal.invariant-loop-index
invariant-loop-index l = record {
  many : length l.columns ≡ length l.types;
  same : take l.index (kinds_of (map column_type l.columns)) ≡ take l.index (kinds_of l.types);
}
