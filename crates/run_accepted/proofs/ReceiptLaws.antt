-- The receipts of read relations, by what the definitions see of their files.
use Rattle.std.proofs.Common.{ℕ, List, [], ◌∷◌, Option, map}
use Rattle.std.specs.List.{AllZip}
use Rattle.crew_tables.specs.Receipts.{IsReceiptOf, IsReceiptFor}
use Rattle.plan_tables.specs.declared.open.OpenRead.{OpenRead}
use Rattle.plan_tables.specs.Open.{open_seen}
use Rattle.run_words.specs.declared.status.PipeReceipt.{PipeReceipt}
use Rattle.run_accepted.specs.Done.{input_of}

pub receipts_seen : {R : Type 0} (bytes : R → Option (List ℕ)) (workers : ℕ) (opened : List (OpenRead R)) (receipts : List PipeReceipt) → AllZip (IsReceiptFor bytes workers) opened receipts
    → AllZip (IsReceiptOf workers) (map input_of (map (open_seen bytes) opened)) receipts
receipts_seen bytes workers [] [] are = tt
receipts_seen bytes workers [] (receipt ∷ receipts) are = absurd are
receipts_seen bytes workers (one ∷ opened) [] are = absurd are
receipts_seen bytes workers (one ∷ opened) (receipt ∷ receipts) are = (are.0, receipts_seen bytes workers opened receipts are.1)
