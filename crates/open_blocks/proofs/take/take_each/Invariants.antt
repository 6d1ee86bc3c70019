use Rattle.std.proofs.Common.{◌≡◌, ◌+◌, ◌≤◌}
use Rattle.std.specs.Vec.Iter.{into_iter_items}
use Rattle.plan_tables.specs.Open.{AllReady, count_open}
use Rattle.open_blocks.specs.Files.{AreFilesOf, count_readers}
use Rattle.open_blocks.specs.Taken.{IsKept}
use Rattle.open_blocks.proofs.AddedLaws.{SoFar}
use Rattle.open_blocks.proofs.take.take_each.Given as goal

-- the files so far, and what is so of the read relations that are left
abbrev pub invariant-loop-one : goal.invariant-loop-one
invariant-loop-one g l = record {
  ready : AllReady g.F.R.Reader.bytes (into_iter_items l.one-iterator);
  taken : SoFar (AreFilesOf g.F.R.Reader.bytes) l.fn.opened.items (into_iter_items l.one-iterator) l.initial.all.items l.all.items l.so_far;
  kept : IsKept (g.F.Folder.lent l.initial.folder) (g.F.Folder.lent l.folder) (count_open l.fn.opened.items) (count_readers l.all.items + count_open (into_iter_items l.one-iterator));
  never_falls : g.F.Folder.read_faults l.initial.folder ≤ g.F.Folder.read_faults l.folder;
  files : g.F.Folder.files l.folder ≡ g.F.Folder.files l.initial.folder;
  write_faults : g.F.Folder.write_faults l.folder ≡ g.F.Folder.write_faults l.initial.folder;
}
