-- What is known after the subqueries so far.
use Rattle.std.proofs.Common.{◌≡◌, ◌≤◌, map}
use Rattle.open_blocks.specs.Files.{faults_of, files_seen}
use Rattle.plan_rounds.proofs.SoFarLaws.{IsSoFar}
use Rattle.plan_rounds.proofs.run.worths_of.Given as goal

abbrev pub invariant-loop-sub : goal.invariant-loop-sub
invariant-loop-sub g l = record {
  so_far : IsSoFar l.crew.workers (map (files_seen g.R.Reader.bytes) l.initial.files.items) l.plan l.sub-index l.known.items l.receipts.items;
  seen : map (files_seen g.R.Reader.bytes) l.files.items ≡ map (files_seen g.R.Reader.bytes) l.initial.files.items;
  never_falls : faults_of g.R.Reader.faults l.initial.files.items ≤ faults_of g.R.Reader.faults l.files.items;
}
