-- The open files of read relations as the definitions see them, and what is so of them.
use Rattle.std.specs.Prelude.{◌≡◌, ℕ, List, map, Option, IsSome, length, Vec}
use Rattle.std.specs.List.{All, sum_by}
use Rattle.std.specs.declared.alloc.Global.{Global}
use Rattle.sub_types.specs.declared.kind.Ty.{Ty}
use Rattle.plan_reads.specs.declared.reads.PlanRead.{PlanRead}
use Rattle.table_open.specs.declared.file.OpenFile.{OpenFile}
use Rattle.table_open.specs.Files.{TableFile}
use Rattle.table_open.specs.Ready.{file_seen, IsReady}
use Rattle.plan_tables.specs.declared.open.OpenRead.{OpenRead}
use Rattle.plan_tables.specs.Tables.{Opened}

-- the open files of a table
abbrev pub OpenTable : Type 0 → Type 0
OpenTable R = Vec (OpenFile R) Global

-- they are what the definitions see of them
abbrev pub table_seen : {R : Type 0} → (R → Option (List ℕ)) → OpenTable R → List TableFile
table_seen bytes table = map (file_seen bytes) table.items

abbrev pub open_seen : {R : Type 0} → (R → Option (List ℕ)) → OpenRead R → Opened
open_seen bytes one = record { read = one.read; tables = map (table_seen bytes) one.tables.items }

-- every reader of tables tells its bytes
abbrev pub AreTold : {R : Type 0} → (R → Option (List ℕ)) → List (OpenTable R) → Type 0
AreTold bytes tables = All (λ table. All (λ file. IsSome (bytes file.reader)) table.items) tables

-- every file of tables is ready to be read for the types
abbrev pub AreReady : {R : Type 0} → (R → Option (List ℕ)) → List Ty → List (OpenTable R) → Type 0
AreReady bytes types tables = All (λ table. All (IsReady bytes types) table.items) tables

-- the same of read relations, each for its own types
abbrev pub AllTold : {R : Type 0} → (R → Option (List ℕ)) → List (OpenRead R) → Type 0
AllTold bytes opened = All (λ one. AreTold bytes one.tables.items) opened

abbrev pub AllReady : {R : Type 0} → (R → Option (List ℕ)) → List (OpenRead R) → Type 0
AllReady bytes opened = All (λ one. AreReady bytes one.read.types one.tables.items) opened

-- how many files of tables are open, and of read relations
abbrev pub count_files : {R : Type 0} → List (OpenTable R) → ℕ
count_files tables = sum_by (λ table. length table.items) tables

abbrev pub count_open : {R : Type 0} → List (OpenRead R) → ℕ
count_open opened = sum_by (λ one. count_files one.tables.items) opened

-- a read relation has as many names of columns as types
abbrev pub IsShaped : PlanRead → Type 0
IsShaped read = length read.names ≡ length read.types
