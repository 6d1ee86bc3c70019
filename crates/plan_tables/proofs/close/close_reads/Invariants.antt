use Rattle.std.proofs.Common.{◌≡◌, ◌-◌, ◌≤◌}
use Rattle.std.specs.Vec.Iter.{into_iter_items}
use Rattle.plan_tables.specs.Open.{count_open}
use Rattle.plan_tables.proofs.close.close_reads.Given as goal

-- the read relations that are left take what is missing
abbrev pub invariant-loop-one : goal.invariant-loop-one
invariant-loop-one g l = record {
  never_falls : g.F.Folder.read_faults l.initial.folder ≤ g.F.Folder.read_faults l.folder;
  files : g.F.Folder.files l.folder ≡ g.F.Folder.files l.initial.folder;
  write_faults : g.F.Folder.write_faults l.folder ≡ g.F.Folder.write_faults l.initial.folder;
  lent : g.F.Folder.lent l.initial.folder - count_open l.fn.opened.items ≡ g.F.Folder.lent l.folder - count_open (into_iter_items l.one-iterator);
}
