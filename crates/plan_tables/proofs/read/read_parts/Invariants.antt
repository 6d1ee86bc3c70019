use Rattle.std.proofs.Common.{◌≡◌, ◌-◌, ◌≤◌, All}
use Rattle.std.specs.List.{flat_map}
use Rattle.std.specs.Vec.Iter.{into_iter_items}
use Rattle.world.specs.Counts.{Rose}
use Rattle.world.specs.declared.error.FolderError.TheVariants.{Failed as FolderFailed}
use Rattle.table_rows.specs.Blocks.{HoldsTypes}
use Rattle.plan_tables.specs.declared.read.TableEnd.TheVariants.{Failed}
use Rattle.plan_tables.specs.Open.{table_seen, AreTold, AreReady, count_files}
use Rattle.plan_tables.specs.Read.{IsEnd}
use Rattle.plan_tables.proofs.FileLaws.{ReadSoFar}
use Rattle.plan_tables.proofs.read.read_parts.Given as goal

-- what was read of the tables so far, and what is so of those that are left
abbrev pub invariant-loop-table : goal.invariant-loop-table
invariant-loop-table g l = record {
  ready : AreReady g.F.R.Reader.bytes l.read.types.now (into_iter_items l.table-iterator);
  tells : AreTold g.F.R.Reader.bytes l.fn.opened.items → AreTold g.F.R.Reader.bytes (into_iter_items l.table-iterator);
  read : AreTold g.F.R.Reader.bytes l.fn.opened.items
      → ReadSoFar l.read.relation l.read.types.now (flat_map (table_seen g.F.R.Reader.bytes) l.fn.opened.items) (flat_map (table_seen g.F.R.Reader.bytes) (into_iter_items l.table-iterator)) l.batches.items l.end;
  typed : All (HoldsTypes l.read.types.now) l.batches.items;
  faults : IsEnd l.read.relation l.end;
  never_falls : g.F.Folder.read_faults l.initial.folder ≤ g.F.Folder.read_faults l.folder;
  failed : l.end ≡ Failed FolderFailed → Rose (g.F.Folder.read_faults l.initial.folder) (g.F.Folder.read_faults l.folder);
  files : g.F.Folder.files l.folder ≡ g.F.Folder.files l.initial.folder;
  write_faults : g.F.Folder.write_faults l.folder ≡ g.F.Folder.write_faults l.initial.folder;
  lent : g.F.Folder.lent l.initial.folder - count_files l.fn.opened.items ≡ g.F.Folder.lent l.folder - count_files (into_iter_items l.table-iterator);
}
