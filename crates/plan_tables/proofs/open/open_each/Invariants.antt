use Rattle.std.proofs.Common.{◌≡◌, ◌+◌, ◌≤◌, ◌++◌, map, Some, All}
use Rattle.std.specs.Vec.Iter.{into_iter_items}
use Rattle.world.specs.Files.{Files}
use Rattle.sub_types.specs.ResultSteps.{collect}
use Rattle.plan_reads.specs.Reads.{HasFewNames}
use Rattle.table_open.proofs.StepLaws.{followed}
use Rattle.plan_tables.specs.Open.{open_seen, AllTold, AllReady, count_open, IsShaped}
use Rattle.plan_tables.specs.Tables.{open_read}
use Rattle.plan_tables.proofs.open.open_each.Given as goal

-- the read relations so far, and those that are left
abbrev pub invariant-loop-read : goal.invariant-loop-read
invariant-loop-read g l = record {
  shaped : All IsShaped (into_iter_items l.read-iterator);
  few : All HasFewNames (into_iter_items l.read-iterator);
  split : l.fn.reads.items ≡ map (λ one. one.read) l.opened.items ++ into_iter_items l.read-iterator;
  told : (files : Files) → g.F.Folder.files l.initial.folder ≡ Some files
      → collect (map (open_read files l.words) l.fn.reads.items)
      ≡ followed (open_read files l.words) (map (open_seen g.F.R.Reader.bytes) l.opened.items) (into_iter_items l.read-iterator);
  tells : (files : Files) → g.F.Folder.files l.initial.folder ≡ Some files → AllTold g.F.R.Reader.bytes l.opened.items;
  ready : AllReady g.F.R.Reader.bytes l.opened.items;
  never_falls : g.F.Folder.read_faults l.initial.folder ≤ g.F.Folder.read_faults l.folder;
  files : g.F.Folder.files l.folder ≡ g.F.Folder.files l.initial.folder;
  write_faults : g.F.Folder.write_faults l.folder ≡ g.F.Folder.write_faults l.initial.folder;
  lent : g.F.Folder.lent l.folder ≡ g.F.Folder.lent l.initial.folder + count_open l.opened.items;
}
