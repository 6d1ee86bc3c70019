-- The tables in memory as the rows of each read relation.
use Rattle.std.specs.Prelude.{ℕ, List, [], ◌∷◌, None, ◌==◌, if◌then◌else◌}
use Rattle.std.specs.List.{flat_map}
use Rattle.sub_types.specs.Stream.{Stream, ended}
use Rattle.batch.specs.BatchRows.{rows_of}
use Rattle.plan_denote.specs.Rows.{Row}
use Rattle.row_engine.specs.declared.tables.Table.{Table}

-- the rows of a table
abbrev pub table_stream : Table → Stream Row
table_stream table = record { rows = flat_map rows_of table.batches; end = table.end }

-- the rows of the first table of each relation, none where it has none
abbrev pub tables_seen : List Table → ℕ → Stream Row
tables_seen [] relation = ended None
tables_seen (table ∷ tables) relation = if table.relation == relation then table_stream table else tables_seen tables relation
