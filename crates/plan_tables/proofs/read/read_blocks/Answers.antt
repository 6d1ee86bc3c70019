use Rattle.std.proofs.Common.{sym, subst, [], ◌∷◌, ◌++◌}
use Rattle.table_open.specs.Ready.{file_seen}
use Rattle.plan_tables.specs.Read.{HasRead}
use Rattle.plan_tables.proofs.FileLaws.{file_read_as, ended_more}
use Rattle.plan_tables.proofs.ReadLaws.{typed_more}
use Rattle.plan_tables.proofs.read.read_blocks.Goals as goal

pub returns-in-Whole-clause-read : goal.returns-in-Whole-clause-read
returns-in-Whole-clause-read g c = λ told files has.
    let relation = c.args.read.now.relation in
    let types = c.args.read.now.types.now in
    let file = c.args.file.now in
    let old = c.args.batches.now.items in
    let new = c.read_file.new.batches.items in
    let read = c.read_file.ensures in
    subst (HasRead relation types (files ++ file_seen g.R.Reader.bytes file ∷ []) new) (sym c.end_of.ensures)
    (file_read_as relation types files file.file _ _ (g.R.Reader.bytes file.reader) file.wanted.items c.deref.result.now old new c.read_file.result
    file.head.blocks.ok.0 c.deref.ensures.value told (subst (HasRead relation types files old) c.in-Whole.is has) read.rows read.end)

pub returns-in-Whole-clause-typed : goal.returns-in-Whole-clause-typed
returns-in-Whole-clause-typed g c = typed_more c.args.read.now.types.now c.args.batches.now.items c.read_file.new.batches.items c.read_file.ensures.batches

pub returns-in-Faulty-clause-read : goal.returns-in-Faulty-clause-read
returns-in-Faulty-clause-read g c = λ told files has.
    let relation = c.args.read.now.relation in
    let types = c.args.read.now.types.now in
    ended_more relation types files (file_seen g.R.Reader.bytes c.args.file.now) c.args.batches.now.items c.in-Faulty.fault
    (subst (HasRead relation types files c.args.batches.now.items) c.in-Faulty.is has)
