-- What a command line denotes over the files of a folder, and which statuses fit it.
use Rattle.std.specs.Prelude.{◌≡◌, ◌⊎◌, ℕ, List, [], true, Option, Result, Ok, Err, length, IsOkAnd, if◌then◌else◌, nat_le}
use Rattle.std.specs.Option.{ok_or}
use Rattle.std.specs.FinMap.{get}
use Rattle.world.specs.Files.{Files}
use Rattle.plan_scan.specs.declared.flaw.Flaw.{Flaw}
use Rattle.plan_scan.specs.declared.flaw.Flaw.TheVariants as flaws
use Rattle.plan_raw.specs.declared.plan.PlanTree.{PlanTree}
use Rattle.plan_parts.specs.Reader.{plan_of}
use Rattle.plan_typed.specs.declared.sub.Holed.{Holed}
use Rattle.plan_verdict.specs.Checking.{Refusal}
use Rattle.plan_verdict.specs.Verdict.{verdict}
use Rattle.plan_verdict.specs.declared.rule.Rule.{Rule}
use Rattle.plan_reads.specs.Reads.{reads_of}
use Rattle.plan_tables.specs.Refused.{IsRefused}
use Rattle.table_open.specs.declared.error.FileRule.TheVariants as file_rules
use Rattle.sub_types.specs.ResultSteps.{◌>>=◌}
use Rattle.run_words.specs.Words.{reading_of, plan_to_check}
use Rattle.run_words.specs.declared.status.Report.{Report}
use Rattle.run_words.specs.declared.status.Status.{Status}
use Rattle.run_words.specs.declared.status.Status.TheVariants as status
use Rattle.run_accepted.specs.Done.{Done, IsAccepted, done_in}
use Rattle.run_accepted.specs.Fits.{IsReport, IsFaultOf}

-- the most bytes of a plan
abbrev pub MAX_PLAN : ℕ
MAX_PLAN = 16777216

-- the place of a flaw
abbrev pub unreadable : Flaw → Status
unreadable (flaws.Unreadable place) = status.PlanUnreadable place
unreadable (flaws.TooDeep place) = status.PlanUnreadable place

-- a plan without a flaw
abbrev pub flawless : Result PlanTree Flaw → Result PlanTree Status
flawless (Ok tree) = Ok tree
flawless (Err flaw) = Err (unreadable flaw)

-- the tree of a plan's bytes, which aren't too many
unfoldable pub tree_in : List ℕ → Result PlanTree Status
tree_in bytes = if nat_le (length bytes) MAX_PLAN then flawless (plan_of bytes) else Err (status.PlanUnreadable MAX_PLAN)

-- the checked plan, unless the verdict refuses it
abbrev pub judged : Result Holed Refusal → Result Holed Status
judged (Ok plan) = Ok plan
judged (Err refusal) = Err (status.PlanRefused refusal.relation refusal.rule)

-- the checked plan of a plan's bytes, subqueries taken
unfoldable pub accepted_in : List ℕ → Result Holed Status
accepted_in bytes = do
  tree ← tree_in bytes
  judged (verdict true tree)

-- the bytes of the plan of this name
abbrev pub plan_at : Files → List ℕ → Result (List ℕ) Status
plan_at files name = ok_or (get files name) (status.FileRefused 0 file_rules.Missing)

-- the checked plan of that name
abbrev pub accepted_at : Files → List ℕ → Result Holed Status
accepted_at files name = plan_at files name >>= accepted_in

-- the first refusal, or what is done: the words are read; the plan is found, readable and accepted; the files of its read relations
-- are opened; its subqueries in order, and then its main relation, denote no fault and not too many rows; and these are the file
unfoldable pub answer : List (List ℕ) → Files → Result Done Status
answer words files = do
  reading ← ok_or (reading_of words) status.Usage
  plan ← accepted_at files reading.plan
  done_in files reading plan

-- the first refusal of `check PLAN`, or the checked plan: the words are read, and the plan is found, readable and accepted
unfoldable pub check_answer : List (List ℕ) → Files → Result Holed Status
check_answer words files = do
  name ← ok_or (plan_to_check words) status.Usage
  accepted_at files name

-- the status is the denoted one
abbrev pub IsDenoted : Result Done Status → Status → Type 0
IsDenoted (Ok done) (status.Ok report) = IsReport done report
IsDenoted (Ok done) refusal = ⊥
IsDenoted (Err refusal) answered = answered ≡ refusal

-- a report of no rows and no receipts
pub record IsEmpty (report : Report) : Type 0 where
  pub rows : report.rows ≡ 0
  pub receipts : report.receipts.items ≡ []

-- Which status and files fit an answer of `check`. All files are as they were; a refusal is the denoted one.
abbrev pub FitsCheck : Result Holed Status → Option Files → Option Files → Status → Type 0
FitsCheck denoted before now (status.Ok report) = IsOkAnd denoted (λ _. IsEmpty report × (now ≡ before))
FitsCheck denoted before now status.ReadFault = now ≡ before
FitsCheck denoted before now status.NoMemory = now ≡ before
FitsCheck denoted before now refusal = (denoted ≡ Err refusal) × (now ≡ before)

-- the status is the denoted one of `check`
abbrev pub IsCheckDenoted : Result Holed Status → Status → Type 0
IsCheckDenoted (Ok plan) (status.Ok report) = IsEmpty report
IsCheckDenoted (Ok plan) refusal = ⊥
IsCheckDenoted (Err refusal) answered = answered ≡ refusal

-- the verdict refuses some plan at this relation by this rule
abbrev pub IsVerdict : ℕ → Rule → Type 0
IsVerdict relation rule = (tree : PlanTree) × (verdict true tree ≡ Err (record { relation = relation; rule = rule }))

-- the refusal is the denoted one; a read fault and want of memory are free
abbrev pub IsRefusalOf : {A : Type 0} → Result A Status → Status → Type 0
IsRefusalOf denoted status.ReadFault = Unit {0}
IsRefusalOf denoted status.NoMemory = Unit {0}
IsRefusalOf denoted refusal = denoted ≡ Err refusal

-- why a plan isn't accepted
abbrev pub IsPlanRefusal : Status → Type 0
IsPlanRefusal (status.PlanUnreadable place) = Unit {0}
IsPlanRefusal (status.PlanRefused relation rule) = IsVerdict relation rule
IsPlanRefusal (status.FileRefused file rule) = (file ≡ 0) × (rule ≡ file_rules.Missing)
IsPlanRefusal status.ReadFault = Unit {0}
IsPlanRefusal status.NoMemory = Unit {0}
IsPlanRefusal _ = ⊥

-- the answers of `check` that can come, whatever the folder tells
abbrev pub IsCheckNamed : Status → Type 0
IsCheckNamed (status.Ok report) = IsEmpty report
IsCheckNamed status.Usage = Unit {0}
IsCheckNamed refusal = IsPlanRefusal refusal

-- the answers of `run` that can come, whatever the folder tells: a refusal of a file is by a read relation of an accepted plan, and a
-- fault is such a plan's over some tables
abbrev pub IsNamed : Status → Type 0
IsNamed (status.PlanRefused relation rule) = IsVerdict relation rule
IsNamed (status.FileRefused file rule) = ((file ≡ 0) × (rule ≡ file_rules.Missing)) ⊎ ((plan : Holed) × IsAccepted plan × IsRefused (reads_of plan) 1024 file rule)
IsNamed (status.DataFault fault) = (plan : Holed) × IsAccepted plan × IsFaultOf plan fault
IsNamed _ = Unit {0}
