use Rattle.std.proofs.Common.{◌≡◌, ◌+◌, ◌≤◌, ◌++◌, length, map, Some, IsSome, All}
use Rattle.world.specs.Files.{Files}
use Rattle.sub_types.specs.ResultSteps.{collect}
use Rattle.table_open.specs.Words.{bindings_of}
use Rattle.table_open.specs.Files.{open_one}
use Rattle.table_open.specs.Ready.{file_seen, IsReady}
use Rattle.table_open.proofs.StepLaws.{followed}
use Rattle.table_open.proofs.WordLaws.{bindings_from}
use Rattle.table_open.proofs.table.open_all.Given as goal

-- the files so far, and those of the words that are left
abbrev pub invariant-loop-i : goal.invariant-loop-i
invariant-loop-i g l = record {
  told : (files : Files) → g.F.Folder.files l.initial.folder ≡ Some files
      → collect (map (open_one files l.table.relation l.table.names.now l.table.types.now) (bindings_of l.name l.words))
      ≡ followed (open_one files l.table.relation l.table.names.now l.table.types.now) (map (file_seen g.F.R.Reader.bytes) l.opened.items) (bindings_from l.name l.i l.words);
  tells : (files : Files) → g.F.Folder.files l.initial.folder ≡ Some files → All (λ one. IsSome (g.F.R.Reader.bytes one.reader)) l.opened.items;
  numbers : map (λ binding. binding.0) (bindings_of l.name l.words) ≡ map (λ one. one.file) l.opened.items ++ map (λ binding. binding.0) (bindings_from l.name l.i l.words);
  ready : All (IsReady g.F.R.Reader.bytes l.table.types.now) l.opened.items;
  never_falls : g.F.Folder.read_faults l.initial.folder ≤ g.F.Folder.read_faults l.folder;
  reads : g.F.Folder.reads l.folder ≡ g.F.Folder.reads l.initial.folder;
  files : g.F.Folder.files l.folder ≡ g.F.Folder.files l.initial.folder;
  write_faults : g.F.Folder.write_faults l.folder ≡ g.F.Folder.write_faults l.initial.folder;
  lent : g.F.Folder.lent l.folder ≡ g.F.Folder.lent l.initial.folder + length l.opened.items;
}
