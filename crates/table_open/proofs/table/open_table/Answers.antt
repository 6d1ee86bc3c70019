use Rattle.std.proofs.Common.{◌<◌, length, map, Vec, Global, vec_len, arith}
use Rattle.table_open.specs.declared.file.OpenFile.{OpenFile}
use Rattle.table_open.specs.Ready.{file_seen}
use Rattle.table_open.proofs.TableLaws.{not_empty, table_opened, table_refused}
use Rattle.table_open.proofs.table.open_table.Goals as goal

pub returns-in-Err-clause-told : goal.returns-in-Err-clause-told
returns-in-Err-clause-told g c = λ files is.
    let bytes = g.F.R.Reader.bytes in
    table_refused files c.args.relation c.args.columns.now c.args.types.now (λ (done : Unit {0}). map (file_seen bytes) c.open_all.new.opened.items)
    (λ (opened : Vec (OpenFile g.row.F-R.Denot) Global). map (file_seen bytes) opened.items) c.args.words.now c.args.name.now c.in-Err.error (c.in-Err.ensures.told files is)

pub returns-clause-told : goal.returns-clause-told
returns-clause-told g c = λ files is.
    let opened = c.open_all.new.opened in
    let some : 0 < length opened.items = omega (arith, not_empty (vec_len opened) c.if-is_empty.ensures, opened.ok.0) in
    table_opened files c.args.relation c.args.columns.now c.args.types.now g.F.R.Reader.bytes c.args.words.now c.args.name.now opened.items some (c.in_default.ensures.told files is)
