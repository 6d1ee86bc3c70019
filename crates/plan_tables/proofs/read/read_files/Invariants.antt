use Rattle.std.proofs.Common.{◌≡◌, ◌-◌, ◌≤◌, ◌++◌, ◌⊎◌, length, map, List, IsSome, All}
use Rattle.std.specs.Vec.Iter.{into_iter_items}
use Rattle.world.specs.Counts.{Rose}
use Rattle.world.specs.declared.error.FolderError.TheVariants.{Failed as FolderFailed}
use Rattle.table_open.specs.Files.{TableFile}
use Rattle.table_open.specs.Ready.{file_seen, IsReady}
use Rattle.table_rows.specs.Blocks.{HoldsTypes}
use Rattle.plan_tables.specs.declared.read.TableEnd.TheVariants.{Failed}
use Rattle.plan_tables.specs.Open.{table_seen}
use Rattle.plan_tables.specs.Read.{HasRead, IsEnd}
use Rattle.plan_tables.proofs.FileLaws.{ReadSoFar}
use Rattle.plan_tables.proofs.read.read_files.Given as goal

-- what was read of the files so far, and what is so of those that are left
abbrev pub invariant-loop-file : goal.invariant-loop-file
invariant-loop-file g l = record {
  ready : All (IsReady g.F.R.Reader.bytes l.read.types.now) (into_iter_items l.file-iterator);
  tells : All (λ file. IsSome (g.F.R.Reader.bytes file.reader)) l.fn.table.items → All (λ file. IsSome (g.F.R.Reader.bytes file.reader)) (into_iter_items l.file-iterator);
  read : All (λ file. IsSome (g.F.R.Reader.bytes file.reader)) l.fn.table.items → (files : List TableFile)
      → HasRead l.read.relation l.read.types.now files l.initial.batches.items l.fn.so_far
      → ReadSoFar l.read.relation l.read.types.now (files ++ table_seen g.F.R.Reader.bytes l.fn.table) (map (file_seen g.F.R.Reader.bytes) (into_iter_items l.file-iterator)) l.batches.items l.end;
  typed : All (HoldsTypes l.read.types.now) l.initial.batches.items → All (HoldsTypes l.read.types.now) l.batches.items;
  faults : IsEnd l.read.relation l.fn.so_far → IsEnd l.read.relation l.end;
  never_falls : g.F.Folder.read_faults l.initial.folder ≤ g.F.Folder.read_faults l.folder;
  failed : l.end ≡ Failed FolderFailed → (l.fn.so_far ≡ Failed FolderFailed) ⊎ Rose (g.F.Folder.read_faults l.initial.folder) (g.F.Folder.read_faults l.folder);
  files : g.F.Folder.files l.folder ≡ g.F.Folder.files l.initial.folder;
  write_faults : g.F.Folder.write_faults l.folder ≡ g.F.Folder.write_faults l.initial.folder;
  lent : g.F.Folder.lent l.initial.folder - length l.fn.table.items ≡ g.F.Folder.lent l.folder - length (into_iter_items l.file-iterator);
}
