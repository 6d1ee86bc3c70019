use Rattle.std.proofs.Common.{◌≡◌}
use Rattle.table_open.specs.Columns.{match_columns, match_one}
use Rattle.table_open.proofs.StepLaws.{followed}
use Rattle.table_open.proofs.ColumnLaws.{columns_from}
use Rattle.table_open.proofs.columns.places_of.Given as goal

-- the places so far, and those of the columns that are left
abbrev pub invariant-loop-i : goal.invariant-loop-i
invariant-loop-i l = match_columns l.table.relation l.fields l.table.names.now l.table.types.now
    ≡ followed (match_one l.table.relation l.fields) l.places.items (columns_from l.i l.table.names.now l.table.types.now)
