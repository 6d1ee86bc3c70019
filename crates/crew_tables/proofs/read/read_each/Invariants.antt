use Rattle.std.proofs.Common.{◌≡◌, ◌-◌, ◌≤◌, IsErrOf}
use Rattle.std.specs.Vec.Iter.{into_iter_items}
use Rattle.world.specs.Counts.{Rose}
use Rattle.world.specs.declared.error.FolderError.TheVariants.{Failed}
use Rattle.plan_tables.specs.Open.{AllReady, count_open}
use Rattle.plan_tables.specs.Read.{IsReadOf}
use Rattle.crew_tables.specs.Receipts.{IsReceiptFor}
use Rattle.crew_tables.proofs.AddedLaws.{SoFar}
use Rattle.crew_tables.proofs.read.read_each.Given as goal

-- the tables so far, and what is so of the read relations that are left
abbrev pub invariant-loop-one : goal.invariant-loop-one
invariant-loop-one g l = record {
  ready : AllReady g.F.R.Reader.bytes (into_iter_items l.one-iterator);
  tables : SoFar (IsReadOf g.F.R.Reader.bytes) l.fn.opened.items (into_iter_items l.one-iterator) l.initial.all.tables.items l.all.tables.items l.so_far;
  receipts : SoFar (IsReceiptFor g.F.R.Reader.bytes l.crew.workers) l.fn.opened.items (into_iter_items l.one-iterator) l.initial.all.receipts.items l.all.receipts.items l.so_far;
  never_falls : g.F.Folder.read_faults l.initial.folder ≤ g.F.Folder.read_faults l.folder;
  failed : IsErrOf l.so_far Failed → Rose (g.F.Folder.read_faults l.initial.folder) (g.F.Folder.read_faults l.folder);
  files : g.F.Folder.files l.folder ≡ g.F.Folder.files l.initial.folder;
  write_faults : g.F.Folder.write_faults l.folder ≡ g.F.Folder.write_faults l.initial.folder;
  lent : g.F.Folder.lent l.initial.folder - count_open l.fn.opened.items ≡ g.F.Folder.lent l.folder - count_open (into_iter_items l.one-iterator);
}
