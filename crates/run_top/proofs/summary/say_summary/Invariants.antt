use Rattle.std.proofs.Common.{◌≡◌, ◌≤◌, take}
use Rattle.world.specs.Notes.{said}
use Rattle.run_top.proofs.SummaryLaws.{lines_of}
use Rattle.run_top.proofs.summary.say_summary.Given as goal

-- the lines so far
abbrev pub invariant-loop-row : goal.invariant-loop-row
invariant-loop-row g l = record {
  text : g.N.Notes.text l.notes ≡ said (g.N.Notes.text l.fn.notes) (lines_of (take l.row-index l.rows));
  never_falls : g.N.Notes.failures l.fn.notes ≤ g.N.Notes.failures l.notes;
}
