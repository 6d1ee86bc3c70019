-- The table that is read for a read relation.
use Rattle.std.specs.Prelude.{◌≡◌, ℕ, List, map, Option, IsSome}
use Rattle.std.specs.List.{All, flat_map}
use Rattle.plan_reads.specs.declared.reads.PlanRead.{PlanRead}
use Rattle.row_engine.specs.Tables.{table_stream}
use Rattle.table_open.specs.Files.{TableFile}
use Rattle.plan_tables.specs.declared.open.OpenRead.{OpenRead}
use Rattle.plan_tables.specs.Open.{table_seen, AreTold}
use Rattle.plan_tables.specs.Read.{IsTableOf, files_stream}
use Rattle.plan_tables.specs.Tables.{batches_of}
use Rattle.crew_tables.specs.Receipts.{IsReceiptOf}
use Rattle.crew_tables.specs.declared.table.Made.{Made}

-- a table of the read relation, with the rows of these files where they are told, and its receipt
pub record IsMadeFrom (read : PlanRead) (workers : ℕ) (told : Type 0) (files : List TableFile) (made : Made) : Type 0 where
  pub table_of : IsTableOf read made.table
  pub rows : told → table_stream made.table ≡ files_stream read.relation read.types files
  pub receipt_of : IsReceiptOf workers (read.relation, batches_of read.origin files) made.receipt

-- the same of the files that are open for it
abbrev pub IsMadeOf : {R : Type 0} → (R → Option (List ℕ)) → ℕ → OpenRead R → Made → Type 0
IsMadeOf bytes workers one made = IsMadeFrom one.read workers (AreTold bytes one.tables.items) (flat_map (table_seen bytes) one.tables.items) made

-- the same of readers that tell their bytes
abbrev pub AllTell : {R : Type 0} → (R → Option (List ℕ)) → List R → Type 0
AllTell bytes readers = All (λ told. IsSome told) (map bytes readers)
