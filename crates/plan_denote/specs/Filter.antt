-- Filters (Substrait `FilterRel`).
use Rattle.std.specs.Prelude.{ℕ, List, Result, Ok}
use Rattle.sub_types.specs.declared.fault.FaultKind.{FaultKind}
use Rattle.sub_types.specs.Stream.{Stream}
use Rattle.plan_denote.specs.Rows.{Row, Formula, ◌>>=◌, is_true, only_if, each_row}

-- the row where the condition is true; nothing where it is false or null
abbrev pub filter_row : Formula → Row → Result (List Row) FaultKind
filter_row condition row = do
  test ← condition row
  Ok (only_if (is_true test) row)

unfoldable pub filtered : ℕ → Formula → Stream Row → Stream Row
filtered number condition = each_row number (filter_row condition)
