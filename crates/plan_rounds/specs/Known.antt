-- What a plan's subqueries are worth over open files, and what follows for its main relation.
use Rattle.std.specs.Prelude.{◌≡◌, ℕ, List, [], Result, IfOk, Vec, map}
use Rattle.std.specs.declared.alloc.Global.{Global}
use Rattle.std.specs.List.{AllByRecursion, AllZip, flat_map}
use Rattle.sub_types.specs.declared.fault.Fault.{Fault}
use Rattle.plan_typed.specs.declared.rel.Rel.{Rel}
use Rattle.plan_typed.specs.declared.sub.Holed.{Holed}
use Rattle.plan_denote.specs.Denote.{Tables}
use Rattle.plan_denote.specs.Holes.{filled}
use Rattle.plan_denote.specs.Subqueries.{worths}
use Rattle.plan_reads.specs.Reads.{reads_in, reads_of as plan_reads_of}
use Rattle.cut_laws.specs.Reads.{reads_of}
use Rattle.agree_laws.specs.Agree.{Agrees, found_for, rels_of}
use Rattle.open_blocks.specs.Files.{FilesSeen}
use Rattle.table_engine.specs.Inputs.{IsReceiptOf, AreTablesOf}
use Rattle.plan_reads.specs.declared.reads.PlanRead.{PlanRead}
use Rattle.run_words.specs.declared.status.PipeReceipt.{PipeReceipt}
use Rattle.sub_query.specs.declared.worth.KnownWorth.{KnownWorth}
use Rattle.plan_rows.specs.Seen.{all_seen}
use Rattle.plan_rounds.specs.Inputs.{batches_of}
use Rattle.plan_rounds.specs.Ready.{IsReady}

-- in how many batches the read relation of a number is read
abbrev pub batches_for : List FilesSeen → Holed → ℕ → ℕ
batches_for files plan = found_for (λ (read : PlanRead). batches_of files read.relation read.origin) 0 (plan_reads_of plan)

-- receipts of the read relations of relations, in the order in which they were read
abbrev pub AreReceiptsOf : ℕ → List FilesSeen → Holed → List Rel → List PipeReceipt → Type 0
AreReceiptsOf workers files plan rels receipts = AllZip (IsReceiptOf workers) (map (λ (number : ℕ). (number, batches_for files plan number)) (flat_map reads_of rels)) receipts

-- what the subqueries are worth over tables that are those of the files, and over any that agree with these where they read; the main
-- relation may be run once that is put in
pub record AreWorths (workers : ℕ) (files : List FilesSeen) (plan : Holed) (found : Result (Vec KnownWorth Global) Fault) (receipts : List PipeReceipt) : Type 0 where
  pub tables : Tables
  pub told : AreTablesOf files tables
  pub worth : (t : Tables) → AllByRecursion (Agrees tables t) (flat_map reads_in (rels_of plan.subs)) → all_seen found ≡ worths t plan.subs []
  pub ready : IfOk (all_seen found) (λ known. IsReady (filled known plan.typed.rel) files)
  pub receipts_of : IfOk (all_seen found) (λ known. AreReceiptsOf workers files plan (rels_of plan.subs) receipts)
