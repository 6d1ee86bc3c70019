-- Receipts of read relations.
use Rattle.std.proofs.Common.{◌≡◌, ℕ, List, [], ◌∷◌, ◌++◌, Some, sym, ap, subst}
use Rattle.std.specs.List.{AllZip}
use Rattle.run_words.specs.declared.status.PipeReceipt.{PipeReceipt}
use Rattle.cut_laws.specs.Found.{ReadRel, read_at}
use Rattle.open_blocks.specs.Files.{FilesSeen}
use Rattle.open_blocks.specs.Taken.{Adds}
use Rattle.pipe_flows.specs.Receipts.{IsReceiptAt, IsReceiptOf, batches_from, batches_read}

-- one receipt more
pub receipt_added : (workers : ℕ) (input : ℕ × ℕ) (receipt : PipeReceipt) (old new : List PipeReceipt) → new ≡ old ++ receipt ∷ [] → IsReceiptOf workers input receipt → Adds (IsReceiptOf workers) (input ∷ []) old new
receipt_added workers input receipt old new pushed is = record { more = receipt ∷ []; added = pushed; each_is = (is, tt) }

-- the same by other names
pub receipt_as : (workers own relation batches count : ℕ) (old new : List PipeReceipt) → own ≡ workers → batches ≡ count → Adds (IsReceiptOf own) ((relation, batches) ∷ []) old new → Adds (IsReceiptOf workers) ((relation, count) ∷ []) old new
receipt_as workers own relation batches count old new same many adds =
    subst (λ (n : ℕ). Adds (IsReceiptOf workers) ((relation, n) ∷ []) old new) many (subst (λ (n : ℕ). Adds (IsReceiptOf n) ((relation, batches) ∷ []) old new) same adds)

-- a receipt of so many batches is the read relation's that has so many
module _ (workers : ℕ) (files : List FilesSeen) (reads : List ReadRel) (number count : ℕ) (is : batches_read files number (read_at number reads) ≡ count) where
  each_at : (more : List PipeReceipt) → AllZip (IsReceiptOf workers) ((number, count) ∷ []) more → AllZip (IsReceiptAt workers files reads) (number ∷ []) more
  each_at [] own = absurd own
  each_at (one ∷ []) own = (subst (λ (n : ℕ). IsReceiptOf workers (number, n) one) (sym is) own.0, tt)
  each_at (one ∷ other ∷ more) own = absurd own.1

  pub receipt_at : (old new : List PipeReceipt) → Adds (IsReceiptOf workers) ((number, count) ∷ []) old new → Adds (IsReceiptAt workers files reads) (number ∷ []) old new
  receipt_at old new adds = record { more = adds.more; added = adds.added; each_is = each_at adds.more adds.each_is }

-- in how many batches a read relation that was found is read
pub read_in : (files : List FilesSeen) (number : ℕ) (reads : List ReadRel) (read : ReadRel) → Some read ≡ read_at number reads → batches_read files number (read_at number reads) ≡ batches_from files number read.source
read_in files number reads read found = ap (batches_read files number) (sym found)
