use Rattle.std.proofs.Common.{◌≡◌, ℕ, length, map, subst, arith}
use Rattle.std.proofs.lemmas.List.{length-map}
use Rattle.crew_tables.specs.Receipts.{IsReceiptOf, batches_read}
use Rattle.crew_tables.proofs.TableLaws.{table_made}
use Rattle.crew_tables.proofs.table.read_rows.Goals as goal

pub returns-clause-made : goal.returns-clause-made
returns-clause-made g c =
    let read = c.args.read.now in
    let rows = c.args.rows.now in
    let blocks = rows.table.now in
    let readers = c.args.readers.now in
    let bytes = map g.R.Reader.bytes readers.items in
    let round = c.in_ok-round in
    let many : length rows.numbers.now ≡ length blocks.files.items = omega (arith, rows.count, blocks.files.ok.0) in
    let lent : length bytes ≡ length blocks.files.items = omega (arith, length-map readers.items g.R.Reader.bytes, readers.ok.0, c.requires.count, blocks.files.ok.0) in
    let count : c.len-count.result ≡ length blocks.places.items = omega (arith, c.len-count.ensures, blocks.places.ok.0) in
    let seats = subst (λ (n : ℕ). IsReceiptOf c.args.crew.now.workers (read.relation, batches_read read.origin n) c.in_ok-receipt.receipt) count c.in_ok-receipt.ensures in
    table_made read c.args.crew.now.workers rows bytes blocks.places.items round.ensures.rows.0 round.round.batches.items round.round.end c.table_of.result c.in_ok-receipt.receipt
    c.requires.relation c.requires.types blocks.placed many lent round.ensures.rows.1 round.ensures.rows.2 round.ensures.typed round.ensures.fault c.table_of.ensures seats
