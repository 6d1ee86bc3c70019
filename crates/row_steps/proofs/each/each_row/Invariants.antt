use Rattle.std.proofs.Common.{◌≡◌, List, Result}
use Rattle.plan_denote.specs.Rows.{each_row as spec_each_row}
use Rattle.sub_types.specs.declared.fault.FaultKind.{FaultKind as Kind}
use Rattle.row_steps.specs.Seen.{seen, ComesAtMost}
use Rattle.row_steps.proofs.EachLaws.{with_left}
use Rattle.row_steps.proofs.each.each_row.Given as goal

-- the rows so far and what is left give what all give
abbrev pub invariant-loop-row : goal.invariant-loop-row
invariant-loop-row g l =
    (f : g.row.A.Denot → Result (List g.row.B.Denot) Kind) → ((row : _) (result : _) → goal.F-post g l.given row result → ComesAtMost result (f row))
    → with_left l.rows l.number f l.row-iterator.rest.items l.end ≡ spec_each_row l.fn.number f (seen l.fn.input)
