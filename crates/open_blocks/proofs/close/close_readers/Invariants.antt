use Rattle.std.proofs.Common.{◌≡◌, ◌-◌, ◌<◌, ◌≤◌, length, sum_by}
use Rattle.std.specs.Vec.Iter.{into_iter_items}
use Rattle.world.specs.Counts.{Rose}
use Rattle.open_blocks.proofs.close.close_readers.Given as goal

-- the readers that are left take what is missing, and where those given back had a fault, the count rose
abbrev pub invariant-loop-reader : goal.invariant-loop-reader
invariant-loop-reader g l = record {
  never_falls : g.F.Folder.read_faults l.initial.folder ≤ g.F.Folder.read_faults l.folder;
  faults : sum_by g.F.R.Reader.faults (into_iter_items l.reader-iterator) < sum_by g.F.R.Reader.faults l.fn.readers.items → Rose (g.F.Folder.read_faults l.initial.folder) (g.F.Folder.read_faults l.folder);
  files : g.F.Folder.files l.folder ≡ g.F.Folder.files l.initial.folder;
  write_faults : g.F.Folder.write_faults l.folder ≡ g.F.Folder.write_faults l.initial.folder;
  lent : g.F.Folder.lent l.initial.folder - length l.fn.readers.items ≡ g.F.Folder.lent l.folder - length (into_iter_items l.reader-iterator);
}
