use Rattle.std.proofs.Common.{◌≡◌, ◌∙◌, ◌≤◌, List, length, ap, subst, vec_len, arith}
use Rattle.plan_tables.specs.Open.{OpenTable, count_files}
use Rattle.open_blocks.specs.Apart.{files_of}
use Rattle.open_blocks.proofs.PartLaws.{count-files, made_added}
use Rattle.open_blocks.proofs.TakenLaws.{parts_of}
use Rattle.open_blocks.proofs.take.take_one.Goals as goal

pub add_apart-requires-after_bounds : goal.add_apart-requires-after_bounds
add_apart-requires-after_bounds g c =
    let opened = c.args.one.tables.items in
    let few : count_files opened ≤ 1048576 = subst (λ (all : List (OpenTable g.row.F-R.Denot)). count_files all ≤ 1048576) c.deref.ensures.value c.in-Ok.ensures.few in
    let none : vec_len c.in-Ok.room.files ≡ 0 = c.in-Ok.room.files.ok.0 ∙ ap length c.in-Ok.ensures.none.files in
    omega (arith, few, none, c.take_tables.ensures.files_len, count-files opened)

pub returns-in-Ok-clause-taken : goal.returns-in-Ok-clause-taken
returns-in-Ok-clause-taken g c =
    let apart = c.take_tables.new.apart in
    made_added g.F.R.Reader.bytes c.args.one apart (parts_of (files_of c.args.one.tables.items) c.in-Ok.room apart c.in-Ok.ensures.none c.take_tables.ensures) c.requires.ready c.args.all.now.items c.add_apart.new.all.items c.add_apart.result c.add_apart.ensures.added

pub returns-in-Ok-clause-kept : goal.returns-in-Ok-clause-kept
returns-in-Ok-clause-kept g c =
    let kept = c.add_apart.ensures.kept in
    let none : vec_len c.in-Ok.room.readers ≡ 0 = c.in-Ok.room.readers.ok.0 ∙ ap length c.in-Ok.ensures.none.readers in
    record { back = kept.back; lent = kept.lent; whole = omega (arith, kept.whole, none, c.take_tables.ensures.readers_len, count-files c.args.one.tables.items) }
