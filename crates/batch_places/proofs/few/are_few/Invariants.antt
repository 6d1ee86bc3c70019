use Rattle.std.proofs.Common.{◌≡◌, ◌<◌, ◌^◌, take}
use Rattle.std.specs.List.{sum_by}
use Rattle.batch_places.proofs.few.are_few.Given as goal

-- the rows so far, which are few
abbrev pub invariant-loop-run : goal.invariant-loop-run
invariant-loop-run l = (l.rows ≡ sum_by (λ run. run.rows) (take l.run-index l.runs)) × (l.rows < 2 ^ 31)
