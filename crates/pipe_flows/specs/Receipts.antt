-- The receipts of read relations.
use Rattle.std.specs.Prelude.{◌≡◌, ℕ, ◌+◌, ◌/◌, List, Option, Some, None, length, map}
use Rattle.run_core.specs.Receipts.{IsBalanced, lists_of}
use Rattle.run_words.specs.declared.status.PipeReceipt.{PipeReceipt}
use Rattle.plan_typed.specs.declared.rel.Source.{Source}
use Rattle.plan_typed.specs.declared.rel.Source.TheVariants as sources
use Rattle.cut_laws.specs.Found.{ReadRel, read_at}
use Rattle.open_blocks.specs.Files.{FilesSeen, files_at}
use Rattle.read_rounds.specs.Told.{blocks_at}

-- the receipt of a read relation of so many batches: each was claimed once, and was finished by one worker or is left
pub record IsReceiptOf (workers : ℕ) (input : ℕ × ℕ) (receipt : PipeReceipt) : Type 0 where
  pub relation : receipt.relation ≡ input.0
  pub batches : receipt.batches ≡ input.1
  pub seats : length receipt.workers.items ≡ workers
  pub balanced : IsBalanced receipt.batches (map lists_of receipt.workers.items) receipt.left.items

-- in how many batches a source is read: a block each, or 1,024 rows of the plan's own
abbrev pub batches_from : List FilesSeen → ℕ → Source → ℕ
batches_from files number (sources.Named names) = blocks_at (files_at number files)
batches_from files number (sources.Rows rows) = (length rows + 1023) / 1024

abbrev pub batches_read : List FilesSeen → ℕ → Option ReadRel → ℕ
batches_read files number None = 0
batches_read files number (Some read) = batches_from files number read.source

-- the read relation of a number with the number of its batches
abbrev pub input_at : List FilesSeen → List ReadRel → ℕ → ℕ × ℕ
input_at files reads number = (number, batches_read files number (read_at number reads))

-- the receipt of the read relation of a number
abbrev pub IsReceiptAt : ℕ → List FilesSeen → List ReadRel → ℕ → PipeReceipt → Type 0
IsReceiptAt workers files reads number receipt = IsReceiptOf workers (input_at files reads number) receipt
