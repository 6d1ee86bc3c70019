use Rattle.std.proofs.Common.{◌≡◌, ◌-◌, ◌≤◌}
use Rattle.std.specs.Vec.Iter.{into_iter_items}
use Rattle.plan_tables.specs.Open.{count_files}
use Rattle.plan_tables.proofs.close.close_tables.Given as goal

-- the tables that are left take what is missing
abbrev pub invariant-loop-table : goal.invariant-loop-table
invariant-loop-table g l = record {
  never_falls : g.F.Folder.read_faults l.initial.folder ≤ g.F.Folder.read_faults l.folder;
  files : g.F.Folder.files l.folder ≡ g.F.Folder.files l.initial.folder;
  write_faults : g.F.Folder.write_faults l.folder ≡ g.F.Folder.write_faults l.initial.folder;
  lent : g.F.Folder.lent l.initial.folder - count_files l.fn.tables.items ≡ g.F.Folder.lent l.folder - count_files (into_iter_items l.table-iterator);
}
