-- The tables that were read, file by file.
use Rattle.std.specs.Prelude.{◌≡◌, ℕ, List, ◌++◌, Option, Some, None, Result, Ok, Err, IfSome}
use Rattle.std.specs.List.{All, AllZip, flat_map}
use Rattle.sub_types.specs.declared.fault.Fault.{Fault}
use Rattle.sub_types.specs.declared.fault.FaultKind.{FaultKind}
use Rattle.sub_types.specs.declared.fault.FaultKind.TheVariants as kinds
use Rattle.sub_types.specs.declared.kind.Ty.{Ty}
use Rattle.sub_types.specs.Stream.{Stream, glue, each}
use Rattle.batch.specs.declared.batch.Batch.{Batch}
use Rattle.batch.specs.BatchRows.{rows_of}
use Rattle.plan_denote.specs.Rows.{Row}
use Rattle.plan_reads.specs.declared.reads.PlanRead.{PlanRead}
use Rattle.row_engine.specs.declared.tables.Table.{Table}
use Rattle.row_engine.specs.Tables.{table_stream}
use Rattle.table_open.specs.Files.{TableFile}
use Rattle.table_rows.specs.Read.{read_row}
use Rattle.table_rows.specs.Blocks.{HoldsTypes}
use Rattle.world.specs.declared.error.FolderError.{FolderError}
use Rattle.plan_tables.specs.declared.open.OpenRead.{OpenRead}
use Rattle.plan_tables.specs.declared.read.TableEnd.{TableEnd}
use Rattle.plan_tables.specs.declared.read.TableEnd.TheVariants.{Whole, Faulty, Failed}
use Rattle.plan_tables.specs.Open.{AreTold, open_seen}
use Rattle.plan_tables.specs.Tables.{blocks_of, tested_in}

-- the rows of files, each tested by the types of the columns, up to the first fault
unfoldable pub files_stream : ℕ → List Ty → List TableFile → Stream Row
files_stream relation types files = each (read_row relation types) (glue (flat_map (blocks_of relation) files))

-- the rows of batches, with this end
abbrev pub batches_stream : List Batch → Option Fault → Stream Row
batches_stream batches end = record { rows = flat_map rows_of batches; end = end }

-- how far a table was read whose last file was read so
abbrev pub table_end : Result (Option Fault) FolderError → TableEnd
table_end (Ok None) = Whole
table_end (Ok (Some fault)) = Faulty fault
table_end (Err error) = Failed error

-- the batches have the rows of the files up to this end, unless the reading failed
abbrev pub HasRead : ℕ → List Ty → List TableFile → List Batch → TableEnd → Type 0
HasRead relation types files batches Whole = files_stream relation types files ≡ batches_stream batches None
HasRead relation types files batches (Faulty fault) = files_stream relation types files ≡ batches_stream batches (Some fault)
HasRead relation types files batches (Failed error) = Unit {0}

-- what may be wrong with the rows of a table
abbrev pub IsRowFault : FaultKind → Type 0
IsRowFault kinds.NullInRequired = Unit {0}
IsRowFault kinds.TextTooLong = Unit {0}
IsRowFault (kinds.BadBatch file block) = Unit {0}
IsRowFault _ = ⊥

-- a fault of a table's rows, at the relation that reads it
pub record IsTableFault (relation : ℕ) (fault : Fault) : Type 0 where
  pub of_relation : fault.relation ≡ relation
  pub of_rows : IsRowFault fault.kind

-- a table ends in such a fault, if in any
abbrev pub IsEnd : ℕ → TableEnd → Type 0
IsEnd relation (Faulty fault) = IsTableFault relation fault
IsEnd relation _ = Unit {0}

-- a table holds batches of the read relation's types, whose rows fit them, and ends in no other fault
pub record IsTableOf (read : PlanRead) (table : Table) : Type 0 where
  pub relation : table.relation ≡ read.relation
  pub typed : All (HoldsTypes read.types) table.batches
  pub fault : IfSome table.end (IsTableFault read.relation)

-- and it has the rows of the read relation's files, where their readers tell their bytes
pub record IsReadOf {R : Type 0} (bytes : R → Option (List ℕ)) (one : OpenRead R) (table : Table) : Type 0 where
  pub table_of : IsTableOf one.read table
  pub rows : AreTold bytes one.tables.items → table_stream table ≡ tested_in (open_seen bytes one)

-- more tables behind the old ones, one of each read relation
pub record AddsTables {R : Type 0} (bytes : R → Option (List ℕ)) (opened : List (OpenRead R)) (old new : List Table) : Type 0 where
  pub more : List Table
  pub added : new ≡ old ++ more
  pub each_read : AllZip (IsReadOf bytes) opened more
