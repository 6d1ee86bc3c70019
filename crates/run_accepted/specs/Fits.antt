-- Which status, report and files fit what a run does.
use Rattle.std.specs.Prelude.{◌≡◌, ◌⊎◌, ℕ, List, Option, Some, Result, Ok, Err, map, IsOkAnd}
use Rattle.std.specs.List.{AllZip}
use Rattle.sub_types.specs.declared.fault.Fault.{Fault}
use Rattle.sub_types.specs.declared.fault.FaultKind.TheVariants as kinds
use Rattle.world.specs.Files.{Files, written, IsPartWritten}
use Rattle.plan_typed.specs.declared.sub.Holed.{Holed}
use Rattle.plan_denote.specs.Denote.{Tables}
use Rattle.plan_denote.specs.Subqueries.{denote_plan}
use Rattle.plan_reads.specs.Reads.{reads_of}
use Rattle.plan_tables.specs.Refused.{IsRefused}
use Rattle.crew_tables.specs.Receipts.{IsReceiptOf}
use Rattle.run_words.specs.declared.status.Report.{Report}
use Rattle.run_words.specs.declared.status.Status.{Status}
use Rattle.run_words.specs.declared.status.Status.TheVariants as status
use Rattle.table_open.specs.declared.error.FileRule.{FileRule}
use Rattle.sub_types.specs.ResultSteps.{◌>>=◌}
use Rattle.plan_tables.specs.Tables.{Opened}
use Rattle.run_accepted.specs.declared.rows.Ran.{Ran}
use Rattle.run_accepted.specs.Done.{Done, input_of, unrefused, rows_over}

-- what a report says of a run that was done: one receipt for each read relation, in order
pub record IsReport (done : Done) (report : Report) : Type 0 where
  pub rows : report.rows ≡ done.rows
  pub receipts : AllZip (IsReceiptOf done.workers) done.inputs report.receipts.items

-- Which status and files fit what a run does. One that is done leaves the file under the out name and all others as they were; a
-- refusal is the denoted one, and leaves all files as they were; a failed write leaves a prefix of the denoted file.
abbrev pub FitsFiles : Result Done Status → Option Files → Option Files → Status → Type 0
FitsFiles denoted before now (status.Ok report) = IsOkAnd denoted (λ done. IsReport done report × (now ≡ written before done.out done.file))
FitsFiles denoted before now status.ReadFault = now ≡ before
FitsFiles denoted before now status.WriteFault = IsOkAnd denoted (λ done. IsPartWritten before now done.out done.file)
FitsFiles denoted before now status.NoMemory = (now ≡ before) ⊎ IsOkAnd denoted (λ done. IsPartWritten before now done.out done.file)
FitsFiles denoted before now refusal = (denoted ≡ Err refusal) × (now ≡ before)

-- the fault is the plan's over some tables, or there are too many rows
abbrev pub IsFaultOf : Holed → Fault → Type 0
IsFaultOf plan fault = ((tables : Tables) × ((denote_plan tables plan).end ≡ Some fault)) ⊎ (fault ≡ record { relation = 0; kind = kinds.TooManyRows })

-- the answers that can come of an accepted plan, whatever the folder tells
abbrev pub IsOutcome : Holed → Status → Type 0
IsOutcome plan (status.Ok report) = Unit {0}
IsOutcome plan (status.FileRefused file rule) = IsRefused (reads_of plan) 1024 file rule
IsOutcome plan (status.DataFault fault) = IsFaultOf plan fault
IsOutcome plan status.ReadFault = Unit {0}
IsOutcome plan status.WriteFault = Unit {0}
IsOutcome plan status.NoMemory = Unit {0}
IsOutcome plan _ = ⊥

-- the rows that an accepted plan denotes over its opened read relations, and a receipt for each of these, in order
pub record IsRan (plan : Holed) (workers : ℕ) (opened : List Opened) (ran : Ran) : Type 0 where
  pub rows : rows_over plan opened ≡ Ok ran.rows.items
  pub receipts : AllZip (IsReceiptOf workers) (map input_of opened) ran.receipts.items

-- What comes of a plan whose read relations are opened, or refused. A read fault and want of memory are free.
abbrev pub FitsRows : Result (List Opened) (ℕ × FileRule) → Holed → ℕ → Result Ran Status → Type 0
FitsRows opened plan workers (Ok ran) = IsOkAnd opened (λ found. IsRan plan workers found ran)
FitsRows opened plan workers (Err status.ReadFault) = Unit {0}
FitsRows opened plan workers (Err status.NoMemory) = Unit {0}
FitsRows opened plan workers (Err refusal) = (unrefused opened >>= rows_over plan) ≡ Err refusal
