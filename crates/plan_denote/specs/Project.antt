-- Projections (Substrait `ProjectRel`), and the columns that a relation emits (`RelCommon.emit`).
use Rattle.std.specs.Prelude.{ℕ, List, [], ◌∷◌, ◌++◌, Result, Ok, map}
use Rattle.sub_types.specs.declared.fault.FaultKind.{FaultKind}
use Rattle.sub_types.specs.declared.value.Value.TheVariants as values
use Rattle.sub_types.specs.Rows.{picked}
use Rattle.sub_types.specs.Stream.{Stream}
use Rattle.plan_denote.specs.Rows.{Row, Formula, ◌>>=◌, values_at, each_row}

-- the row followed by the values of the expressions
abbrev pub project_row : List Formula → Row → Result (List Row) FaultKind
project_row exprs row = do
  values ← values_at exprs row
  Ok ((row ++ values) ∷ [])

unfoldable pub projected : ℕ → List Formula → Stream Row → Stream Row
projected number exprs = each_row number (project_row exprs)

-- the values in these columns, in this order
abbrev pub columns_at : List ℕ → Row → Row
columns_at columns row = picked values.Null columns row

unfoldable pub emitted : List ℕ → Stream Row → Stream Row
emitted columns s = record { rows = map (columns_at columns) s.rows; end = s.end }
