use Rattle.std.proofs.Common.{◌≡◌, ◌*◌, ◌≤◌, length, min, take}
use Rattle.std.specs.List.{flat_map}
use Rattle.world.specs.Files.{appended, Has}
use Rattle.batch.specs.BatchRows.{rows_of}
use Rattle.arrow_meta.specs.File.{batches as cut, batch_message}
use Rattle.arrow_write.specs.Cut.{IsInside, rows_in, rows_before}
use Rattle.arrow_write.proofs.Sending.{Sent}
use Rattle.arrow_write.proofs.batches.append_batches.Given as goal

abbrev pub invariant-loop-k : goal.invariant-loop-k
invariant-loop-k g l =
    let rows = flat_map rows_of l.batches in
    record {
      files : g.F.Folder.files l.folder ≡ appended (g.F.Folder.files l.fn.folder) l.name (flat_map (batch_message l.types) (take l.k (cut rows)));
      has : Has (g.F.Folder.files l.folder) l.name;
      sent : Sent l.types (take l.k (cut rows)) l.start l.progress;
      many : length l.progress.blocks.items ≡ l.k;
      place : rows_before l.batches l.progress.cursor ≡ min (1024 * l.k) (rows_in l.batches);
      inside : IsInside l.batches l.progress.cursor;
      never_falls : g.F.Folder.write_faults l.fn.folder ≤ g.F.Folder.write_faults l.folder;
      reads : g.F.Folder.reads l.folder ≡ g.F.Folder.reads l.fn.folder;
      read_faults : g.F.Folder.read_faults l.folder ≡ g.F.Folder.read_faults l.fn.folder;
      lent : g.F.Folder.lent l.folder ≡ g.F.Folder.lent l.fn.folder;
    }
