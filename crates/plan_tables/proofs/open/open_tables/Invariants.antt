use Rattle.std.proofs.Common.{◌≡◌, ◌+◌, ◌≤◌, drop, map, Some}
use Rattle.world.specs.Files.{Files}
use Rattle.sub_types.specs.ResultSteps.{collect}
use Rattle.table_open.proofs.StepLaws.{followed}
use Rattle.plan_tables.specs.Open.{table_seen, AreTold, AreReady, count_files}
use Rattle.plan_tables.specs.Tables.{files_named, names_in}
use Rattle.plan_tables.proofs.open.open_tables.Given as goal

-- the tables so far, and those of the names that are left
abbrev pub invariant-loop-name : goal.invariant-loop-name
invariant-loop-name g l = record {
  told : (files : Files) → g.F.Folder.files l.initial.folder ≡ Some files
      → collect (map (files_named files l.words l.read) (names_in l.read.origin))
      ≡ followed (files_named files l.words l.read) (map (table_seen g.F.R.Reader.bytes) l.tables.items) (drop l.name-index l.name-items);
  tells : (files : Files) → g.F.Folder.files l.initial.folder ≡ Some files → AreTold g.F.R.Reader.bytes l.tables.items;
  ready : AreReady g.F.R.Reader.bytes l.read.types l.tables.items;
  never_falls : g.F.Folder.read_faults l.initial.folder ≤ g.F.Folder.read_faults l.folder;
  files : g.F.Folder.files l.folder ≡ g.F.Folder.files l.initial.folder;
  write_faults : g.F.Folder.write_faults l.folder ≡ g.F.Folder.write_faults l.initial.folder;
  lent : g.F.Folder.lent l.folder ≡ g.F.Folder.lent l.initial.folder + count_files l.tables.items;
}
