-- The table of one read relation, and its receipt.
use Rattle.std.proofs.Common.{◌∙◌, ℕ, List, Option, sym, subst}
use Rattle.table_open.specs.Files.{TableFile}
use Rattle.plan_tables.specs.declared.open.OpenRead.{OpenRead}
use Rattle.plan_tables.specs.Open.{table_seen}
use Rattle.plan_tables.specs.Read.{IsReadOf}
use Rattle.plan_tables.specs.Tables.{batches_of}
use Rattle.plan_tables.proofs.CountLaws.{flat}
use Rattle.plan_tables.proofs.ReadLaws.{tested_is}
use Rattle.crew_tables.specs.Made.{IsMadeOf}
use Rattle.crew_tables.specs.Receipts.{IsReceiptOf, IsReceiptFor}
use Rattle.crew_tables.specs.declared.table.Made.{Made}

module _ {R : Type 0} (bytes : R → Option (List ℕ)) (workers : ℕ) (one : OpenRead R) (made : Made) (is : IsMadeOf bytes workers one made) where
  pub read_of : IsReadOf bytes one made.table
  read_of = record { table_of = is.table_of; rows = λ told. is.rows told ∙ sym (tested_is bytes one) }

  pub receipt_for : IsReceiptFor bytes workers one made.receipt
  receipt_for =
      subst (λ (files : List TableFile). IsReceiptOf workers (one.read.relation, batches_of one.read.origin files) made.receipt) (sym (flat (table_seen bytes) one.tables.items)) is.receipt_of
