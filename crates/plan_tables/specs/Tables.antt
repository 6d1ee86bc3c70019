-- The tables of a plan: the files of each read relation by their names, and the rows of their blocks.
use Rattle.std.specs.Prelude.{ℕ, ◌+◌, ◌/◌, List, [], ◌∷◌, None, Result, Ok, map, ◌==◌, if◌then◌else◌}
use Rattle.std.specs.List.{flat_map, sum_by}
use Rattle.sub_types.specs.ResultSteps.{◌>>=◌, collect}
use Rattle.sub_types.specs.Stream.{Stream, ended, glue, each}
use Rattle.world.specs.Files.{Files}
use Rattle.plan_denote.specs.Rows.{Row}
use Rattle.plan_denote.specs.Denote.{Tables}
use Rattle.plan_reads.specs.declared.reads.Origin.{Origin}
use Rattle.plan_reads.specs.declared.reads.Origin.TheVariants as origins
use Rattle.plan_reads.specs.declared.reads.PlanRead.{PlanRead}
use Rattle.table_open.specs.Files.{TableFile, table_files}
use Rattle.table_open.specs.declared.error.FileRule.{FileRule}
use Rattle.table_rows.specs.Read.{read_row}
use Rattle.table_rows.specs.Blocks.{file_streams}

-- a read relation with the files of its tables, table by table
pub record Opened : Type 0 where
  pub read : PlanRead
  pub tables : List (List TableFile)

-- the names of the tables that a read relation reads from files
abbrev pub names_in : Origin → List (List ℕ)
names_in (origins.Named names) = names
names_in (origins.Rows count) = []

-- the files of a table of a read relation, by the table's name
abbrev pub files_named : Files → List (List ℕ) → PlanRead → List ℕ → Result (List TableFile) (ℕ × FileRule)
files_named files words read name = table_files files words name read.relation read.names read.types

-- the files of a read relation, name by name, or the first refusal
unfoldable pub open_read : Files → List (List ℕ) → PlanRead → Result Opened (ℕ × FileRule)
open_read files words read = do
  tables ← collect (map (files_named files words read) (names_in read.origin))
  Ok (record { read = read; tables = tables })

-- the files of all read relations, one after the other, or the first refusal
unfoldable pub open_reads : Files → List (List ℕ) → List PlanRead → Result (List Opened) (ℕ × FileRule)
open_reads files words reads = collect (map (open_read files words) reads)

-- all files of a read relation
abbrev pub files_in : Opened → List TableFile
files_in one = flat_map (λ (table : List TableFile). table) one.tables

-- the blocks of a file
abbrev pub blocks_of : ℕ → TableFile → List (Stream Row)
blocks_of relation file = file_streams relation file.number file.bytes file.blocks file.wanted

-- the rows of all blocks of a read relation's files, up to the first that is bad
unfoldable pub stream_in : Opened → Stream Row
stream_in one = glue (flat_map (blocks_of one.read.relation) (files_in one))

-- the same rows, each tested by the types of the columns, up to the first fault
unfoldable pub tested_in : Opened → Stream Row
tested_in one = each (read_row one.read.relation one.read.types) (stream_in one)

-- in how many batches a read relation is read: a block each, or 1,024 rows of the plan's own
abbrev pub batches_of : Origin → List TableFile → ℕ
batches_of (origins.Named names) files = sum_by (λ (file : TableFile). file.blocks) files
batches_of (origins.Rows count) files = (count + 1023) / 1024

abbrev pub batches_in : Opened → ℕ
batches_in one = batches_of one.read.origin (files_in one)

-- of the read relation with this number, the first if there were several
abbrev pub found_in : (Opened → Stream Row) → List Opened → Tables
found_in stream [] relation = ended None
found_in stream (one ∷ rest) relation = if one.read.relation == relation then stream one else found_in stream rest relation

-- the table of each read relation, and the same of tested rows
abbrev pub tables_of : List Opened → Tables
tables_of = found_in stream_in

abbrev pub tested_tables : List Opened → Tables
tested_tables = found_in tested_in
