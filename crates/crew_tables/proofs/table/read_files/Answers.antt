use Rattle.std.proofs.Common.{◌≡◌, [], map, arith}
use Rattle.std.proofs.lemmas.List.{nil_from_length}
use Rattle.crew_tables.specs.Made.{AllTell}
use Rattle.crew_tables.proofs.TableLaws.{table_none}
use Rattle.crew_tables.proofs.table.read_files.Goals as goal

pub returns-then-len-eq0-clause-made : goal.returns-then-len-eq0-clause-made
returns-then-len-eq0-clause-made g c =
    let files = c.args.files in
    let bytes = map g.R.Reader.bytes c.args.readers.now.items in
    let none : files.items ≡ [] = nil_from_length files.items (omega (arith, c.len.ensures, c.if-len-eq0.true, files.ok.0)) in
    table_none c.args.read.now c.args.crew.now.workers files.items c.args.numbers.now bytes (AllTell g.R.Reader.bytes c.args.readers.now.items) c.new.result.items c.table_of.result c.in_ok-receipt.receipt
    none c.new.ensures.items c.table_of.ensures c.in_ok-receipt.ensures
