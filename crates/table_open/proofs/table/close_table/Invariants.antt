use Rattle.std.proofs.Common.{◌≡◌, ◌-◌, ◌≤◌, length, map, fold, OnOk}
use Rattle.std.specs.Vec.Iter.{into_iter_items}
use Rattle.world.specs.Counts.{sum_of_counts}
use Rattle.world.specs.Reads.{joined_reads}
use Rattle.table_open.proofs.table.close_table.Given as goal

-- the readers that are left add what is missing
abbrev pub invariant-loop-one : goal.invariant-loop-one
invariant-loop-one g l = record {
  faults : fold sum_of_counts (g.F.Folder.read_faults l.initial.folder) (map (λ one. g.F.R.Reader.faults one.reader) l.fn.opened.items)
      ≡ fold sum_of_counts (g.F.Folder.read_faults l.folder) (map (λ one. g.F.R.Reader.faults one.reader) (into_iter_items l.one-iterator));
  never_falls : g.F.Folder.read_faults l.initial.folder ≤ g.F.Folder.read_faults l.folder;
  reads : OnOk l.closed (fold joined_reads (g.F.Folder.reads l.initial.folder) (map (λ one. g.F.R.Reader.reads one.reader) l.fn.opened.items)
      ≡ fold joined_reads (g.F.Folder.reads l.folder) (map (λ one. g.F.R.Reader.reads one.reader) (into_iter_items l.one-iterator)));
  files : g.F.Folder.files l.folder ≡ g.F.Folder.files l.initial.folder;
  write_faults : g.F.Folder.write_faults l.folder ≡ g.F.Folder.write_faults l.initial.folder;
  lent : g.F.Folder.lent l.initial.folder - length l.fn.opened.items ≡ g.F.Folder.lent l.folder - length (into_iter_items l.one-iterator);
}
