-- What a run of an accepted plan does: its tables are opened, its rows are denoted over them, and these are the file.
use Rattle.std.specs.Prelude.{◌≡◌, ℕ, ◌^◌, List, true, Option, Some, None, Result, Ok, Err, length, map, if◌then◌else◌, nat_le}
use Rattle.sub_types.specs.ResultSteps.{◌>>=◌}
use Rattle.sub_types.specs.Stream.{Stream}
use Rattle.sub_types.specs.declared.fault.Fault.{Fault}
use Rattle.sub_types.specs.declared.fault.FaultKind.TheVariants as kinds
use Rattle.world.specs.Files.{Files}
use Rattle.arrow_meta.specs.File.{file_of}
use Rattle.plan_raw.specs.declared.plan.PlanTree.{PlanTree}
use Rattle.plan_typed.specs.declared.sub.Holed.{Holed}
use Rattle.plan_typed.specs.Types.{columns_of}
use Rattle.plan_denote.specs.Rows.{Row}
use Rattle.plan_denote.specs.Subqueries.{denote_plan}
use Rattle.plan_verdict.specs.Verdict.{verdict}
use Rattle.plan_reads.specs.Reads.{reads_of}
use Rattle.plan_tables.specs.Tables.{Opened, open_reads, tables_of, batches_in}
use Rattle.table_open.specs.declared.error.FileRule.{FileRule}
use Rattle.run_words.specs.Words.{Reading}
use Rattle.run_words.specs.declared.status.Status.{Status}
use Rattle.run_words.specs.declared.status.Status.TheVariants as status

-- the most rows of an answer
abbrev pub MAX_ROWS : ℕ
MAX_ROWS = 2 ^ 36

-- a plan that the verdict accepts, subqueries taken
abbrev pub IsAccepted : Holed → Type 0
IsAccepted plan = (tree : PlanTree) × (verdict true tree ≡ Ok plan)

-- a run that was done: the out file's name, the workers, the number of rows, each read relation with the number of its batches, and the file
pub record Done : Type 0 where
  pub out : List ℕ
  pub workers : ℕ
  pub rows : ℕ
  pub inputs : List (ℕ × ℕ)
  pub file : List ℕ

-- the files of all read relations, unless one is refused
abbrev pub unrefused : Result (List Opened) (ℕ × FileRule) → Result (List Opened) Status
unrefused (Ok opened) = Ok opened
unrefused (Err (file, rule)) = Err (status.FileRefused file rule)

-- a read relation, and in how many batches it is read
abbrev pub input_of : Opened → ℕ × ℕ
input_of one = (one.read.relation, batches_in one)

-- the rows of a stream, unless a fault ends them
abbrev pub unless_fault : Option Fault → List Row → Result (List Row) Status
unless_fault None rows = Ok rows
unless_fault (Some fault) rows = Err (status.DataFault fault)

abbrev pub whole : Stream Row → Result (List Row) Status
whole s = unless_fault s.end s.rows

-- the file of rows, under the names of the root and the types of the columns
abbrev pub done_of : Reading → Holed → List (ℕ × ℕ) → List Row → Done
done_of reading plan inputs rows =
    record { out = reading.out; workers = reading.workers; rows = length rows; inputs = inputs; file = file_of plan.typed.names (columns_of plan.typed.rel) rows }

-- the same, unless the rows are too many
unfoldable pub done_with : Reading → Holed → List (ℕ × ℕ) → List Row → Result Done Status
done_with reading plan inputs rows =
    if nat_le (length rows) MAX_ROWS
    then Ok (done_of reading plan inputs rows)
    else Err (status.DataFault (record { relation = 0; kind = kinds.TooManyRows }))

-- the rows that the plan denotes over its tables, unless a fault ends them
unfoldable pub rows_over : Holed → List Opened → Result (List Row) Status
rows_over plan opened = whole (denote_plan (tables_of opened) plan)

-- the same as a file
unfoldable pub done_over : Reading → Holed → List Opened → Result Done Status
done_over reading plan opened = do
  rows ← whole (denote_plan (tables_of opened) plan)
  done_with reading plan (map input_of opened) rows

-- the files of its read relations are opened, subqueries' among them, and its rows over them are the file
unfoldable pub done_in : Files → Reading → Holed → Result Done Status
done_in files reading plan = do
  opened ← unrefused (open_reads files reading.bindings (reads_of plan))
  done_over reading plan opened
