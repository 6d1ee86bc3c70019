use Rattle.std.proofs.Common.{◌≡◌, List, Result, None, drop}
use Rattle.plan_denote.specs.Rows.{each_row as spec_each_row}
use Rattle.sub_types.specs.Stream.{rows_alone}
use Rattle.sub_types.specs.declared.fault.FaultKind.{FaultKind as Kind}
use Rattle.row_steps.specs.Seen.{ComesAtMost}
use Rattle.row_steps.proofs.EachLaws.{with_left}
use Rattle.row_steps.proofs.each.each_of.Given as goal

-- the rows so far and what is left give what all give
abbrev pub invariant-loop-row : goal.invariant-loop-row
invariant-loop-row g l =
    (f : g.row.A.Denot → Result (List g.row.B.Denot) Kind) → ((row : _) (result : _) → goal.F-post g l.fn.given row result → ComesAtMost result (f row.now))
    → with_left l.rows l.fn.number f (drop l.row-index l.all) None ≡ spec_each_row l.fn.number f (rows_alone l.fn.all)
