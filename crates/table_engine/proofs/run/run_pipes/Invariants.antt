use Rattle.std.proofs.Common.{◌≡◌, ◌≤◌, map}
use Rattle.std.specs.Vec.Iter.{into_iter_items}
use Rattle.open_blocks.specs.Files.{faults_of, files_seen}
use Rattle.pipe_flows.specs.Inputs.{reads_seen}
use Rattle.pipe_flows.specs.Bodies.{reads_made}
use Rattle.table_engine.proofs.BodyLaws.{HaveReadSo}
use Rattle.table_engine.proofs.RunLaws.{IsRunning}
use Rattle.table_engine.proofs.run.run_pipes.Given as goal

-- the pipelines so far have run
abbrev pub invariant-loop-pipe : goal.invariant-loop-pipe
invariant-loop-pipe g l = record {
  running : IsRunning l.crew.workers (map (files_seen g.R.Reader.bytes) l.initial.files.items) (reads_seen l.fn.reads) l.fn.pipes.items (into_iter_items l.pipe-iterator) l.stores l.initial.receipts.items l.receipts.items;
  bodies : HaveReadSo (reads_seen l.fn.reads) (map (files_seen g.R.Reader.bytes) l.initial.files.items) l.fn.pipes.items (into_iter_items l.pipe-iterator) (reads_made g.R.Reader.reads l.initial.files.items) (reads_made g.R.Reader.reads l.files.items);
  seen : map (files_seen g.R.Reader.bytes) l.files.items ≡ map (files_seen g.R.Reader.bytes) l.initial.files.items;
  never_falls : faults_of g.R.Reader.faults l.initial.files.items ≤ faults_of g.R.Reader.faults l.files.items;
}
