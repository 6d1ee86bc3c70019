-- The receipts of read relations.
use Rattle.std.specs.Prelude.{◌≡◌, ℕ, ◌+◌, ◌/◌, List, Option, length, map}
use Rattle.run_core.specs.Receipts.{IsBalanced, lists_of}
use Rattle.plan_reads.specs.declared.reads.Origin.{Origin}
use Rattle.plan_reads.specs.declared.reads.Origin.TheVariants as origins
use Rattle.plan_tables.specs.declared.open.OpenRead.{OpenRead}
use Rattle.plan_tables.specs.Open.{open_seen}
use Rattle.plan_tables.specs.Tables.{batches_in}
use Rattle.run_words.specs.declared.status.PipeReceipt.{PipeReceipt}

-- in how many batches a read relation is read whose files have so many blocks
abbrev pub batches_read : Origin → ℕ → ℕ
batches_read (origins.Named names) blocks = blocks
batches_read (origins.Rows count) blocks = (count + 1023) / 1024

-- the receipt of a read relation of so many batches: each was claimed once, and was finished by one worker or is left
pub record IsReceiptOf (workers : ℕ) (input : ℕ × ℕ) (receipt : PipeReceipt) : Type 0 where
  pub relation : receipt.relation ≡ input.0
  pub batches : receipt.batches ≡ input.1
  pub seats : length receipt.workers.items ≡ workers
  pub balanced : IsBalanced receipt.batches (map lists_of receipt.workers.items) receipt.left.items

-- the same of a read relation whose files are open
abbrev pub IsReceiptFor : {R : Type 0} → (R → Option (List ℕ)) → ℕ → OpenRead R → PipeReceipt → Type 0
IsReceiptFor bytes workers one receipt = IsReceiptOf workers (one.read.relation, batches_in (open_seen bytes one)) receipt
