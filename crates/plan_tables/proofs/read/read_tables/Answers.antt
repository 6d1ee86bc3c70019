use Rattle.plan_tables.proofs.ReadLaws.{all_read_of, same_relations, same_types, same_rows}
use Rattle.plan_tables.proofs.read.read_tables.Goals as goal

pub returns-clause-tables : goal.returns-clause-tables
returns-clause-tables g c = λ told relation.
    let bytes = g.F.R.Reader.bytes in
    let opened = c.args.opened.items in
    let tables = c.read_each.new.tables.items in
    same_rows bytes opened tables (all_read_of bytes opened c.new-tables.result.items tables c.new-tables.ensures.items c.in_ok-read_each.ensures.read) told relation

pub returns-clause-reads : goal.returns-clause-reads
returns-clause-reads g c =
    let bytes = g.F.R.Reader.bytes in
    let opened = c.args.opened.items in
    let tables = c.read_each.new.tables.items in
    same_relations bytes opened tables (all_read_of bytes opened c.new-tables.result.items tables c.new-tables.ensures.items c.in_ok-read_each.ensures.read)

pub returns-clause-typed : goal.returns-clause-typed
returns-clause-typed g c =
    let bytes = g.F.R.Reader.bytes in
    let opened = c.args.opened.items in
    let tables = c.read_each.new.tables.items in
    same_types bytes opened tables (all_read_of bytes opened c.new-tables.result.items tables c.new-tables.ensures.items c.in_ok-read_each.ensures.read)
