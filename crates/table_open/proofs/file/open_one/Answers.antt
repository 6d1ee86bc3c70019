use Rattle.std.proofs.Common.{◌∙◌, sym}
use Rattle.table_open.proofs.ColumnLaws.{wanted_kinds, wanted_known}
use Rattle.table_open.proofs.file.open_one.Goals as goal

pub returns-in-Ok-clause-ready : goal.returns-in-Ok-clause-ready
returns-in-Ok-clause-ready g c =
    let table = c.args.table in
    let fields = c.in-Ok.head.schema.columns in
    let places = c.in-Ok.wanted.items in
    record {
      head = λ told is. c.in-Ok.ensures.head told (sym c.read_head.ensures.bytes ∙ is);
      kinds = wanted_kinds table.relation fields table.names.now table.types.now places c.requires.same c.in-Ok.ensures.wanted;
      wanted = wanted_known table.relation fields table.names.now table.types.now places c.in-Ok.ensures.wanted;
    }
