use Rattle.plan_tables.specs.declared.open.OpenRead.{OpenRead}
use Rattle.plan_tables.specs.Read.{IsReadOf}
use Rattle.crew_tables.specs.Receipts.{IsReceiptFor}
use Rattle.crew_tables.proofs.AddedLaws.{adds_one}
use Rattle.crew_tables.proofs.OneLaws.{read_of, receipt_for}
use Rattle.crew_tables.proofs.read.read_more.Goals as goal

pub returns-clause-tables : goal.returns-clause-tables
returns-clause-tables g c =
    let bytes = g.F.R.Reader.bytes in
    let one : OpenRead g.row.F-R.Denot = record { read = c.args.read.now; tables = c.args.opened } in
    let made = c.in_ok-made.made in
    adds_one (IsReadOf bytes) one made.table c.args.all.now.tables.items c.push.new.self.items c.in_ok-push.ensures.items
    (read_of bytes c.args.crew.now.workers one made c.in_ok-made.ensures.made)

pub returns-clause-receipts : goal.returns-clause-receipts
returns-clause-receipts g c =
    let bytes = g.F.R.Reader.bytes in
    let one : OpenRead g.row.F-R.Denot = record { read = c.args.read.now; tables = c.args.opened } in
    let made = c.in_ok-made.made in
    adds_one (IsReceiptFor bytes c.args.crew.now.workers) one made.receipt c.args.all.now.receipts.items c.push-2.new.self.items c.in_ok-push-2.ensures.items
    (receipt_for bytes c.args.crew.now.workers one made c.in_ok-made.ensures.made)
