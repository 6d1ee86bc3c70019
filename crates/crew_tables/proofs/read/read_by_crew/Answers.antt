use Rattle.plan_tables.specs.Read.{IsReadOf}
use Rattle.plan_tables.proofs.ReadLaws.{same_types, same_rows}
use Rattle.crew_tables.specs.Receipts.{IsReceiptFor}
use Rattle.crew_tables.proofs.AddedLaws.{all_added}
use Rattle.crew_tables.proofs.read.read_by_crew.Goals as goal

pub returns-clause-tables : goal.returns-clause-tables
returns-clause-tables g c = λ told relation.
    let bytes = g.F.R.Reader.bytes in
    let opened = c.args.opened.items in
    let tables = c.read_each.new.all.tables.items in
    same_rows bytes opened tables (all_added (IsReadOf bytes) opened _ tables c.new.ensures.items c.in_ok-read_each.ensures.tables) told relation

pub returns-clause-typed : goal.returns-clause-typed
returns-clause-typed g c =
    let bytes = g.F.R.Reader.bytes in
    let opened = c.args.opened.items in
    let tables = c.read_each.new.all.tables.items in
    same_types bytes opened tables (all_added (IsReadOf bytes) opened _ tables c.new.ensures.items c.in_ok-read_each.ensures.tables)

pub returns-clause-receipts : goal.returns-clause-receipts
returns-clause-receipts g c =
    all_added (IsReceiptFor g.F.R.Reader.bytes c.args.crew.now.workers) c.args.opened.items _ c.read_each.new.all.receipts.items c.new-2.ensures.items c.in_ok-read_each.ensures.receipts
