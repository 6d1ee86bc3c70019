use Rattle.std.proofs.Common.{◌≡◌, ◌-◌, ◌<◌, ◌≤◌}
use Rattle.std.specs.Vec.Iter.{into_iter_items}
use Rattle.world.specs.Counts.{Rose}
use Rattle.open_blocks.specs.Files.{count_readers, faults_of}
use Rattle.open_blocks.proofs.close.close_files.Given as goal

-- the files that are left take what is missing, and where those given back had a fault, the count rose
abbrev pub invariant-loop-one : goal.invariant-loop-one
invariant-loop-one g l = record {
  never_falls : g.F.Folder.read_faults l.initial.folder ≤ g.F.Folder.read_faults l.folder;
  faults : faults_of g.F.R.Reader.faults (into_iter_items l.one-iterator) < faults_of g.F.R.Reader.faults l.fn.all.items → Rose (g.F.Folder.read_faults l.initial.folder) (g.F.Folder.read_faults l.folder);
  files : g.F.Folder.files l.folder ≡ g.F.Folder.files l.initial.folder;
  write_faults : g.F.Folder.write_faults l.folder ≡ g.F.Folder.write_faults l.initial.folder;
  lent : g.F.Folder.lent l.initial.folder - count_readers l.fn.all.items ≡ g.F.Folder.lent l.folder - count_readers (into_iter_items l.one-iterator);
}
