use Rattle.std.proofs.Common.{List, length, map, ap, arith}
use Rattle.std.specs.List.{flat_map}
use Rattle.plan_tables.specs.Open.{OpenTable, AreTold, table_seen, count_files}
use Rattle.crew_tables.specs.Apart.{files_of, seen_of}
use Rattle.crew_tables.specs.Made.{AllTell}
use Rattle.crew_tables.proofs.PartLaws.{count-files, each_ready, heads_of_parts, kinds_of_parts, parts_are, tell_all}
use Rattle.crew_tables.proofs.TableLaws.{made_as}
use Rattle.crew_tables.proofs.TakenLaws.{parts_of}
use Rattle.crew_tables.proofs.table.read_table.Goals as goal

pub read_apart-requires-clause-few : goal.read_apart-requires-clause-few
read_apart-requires-clause-few g c κs within =
    let opened = c.args.opened.items in
    let none = ap length c.in-Some.ensures.none.files in
    let few = ap (λ (tables : List (OpenTable g.row.F-R.Denot)). count_files tables) c.deref.ensures.value in
    omega (arith, c.take_tables.ensures.files_len, none, c.in-Some.apart.files.ok.0, count-files opened, few, c.in-Some.ensures.few)

pub read_apart-requires-clause-heads : goal.read_apart-requires-clause-heads
read_apart-requires-clause-heads g c κs within =
    let opened = c.args.opened.items in
    let new = c.take_tables.new.apart in
    let parts = parts_of (files_of opened) c.in-Some.apart new c.in-Some.ensures.none c.take_tables.ensures in
    heads_of_parts g.F.R.Reader.bytes c.args.read.now.types opened new.files.items new.numbers.items new.readers.items parts c.requires.ready

pub read_apart-requires-clause-kinds : goal.read_apart-requires-clause-kinds
read_apart-requires-clause-kinds g c κs within =
    let opened = c.args.opened.items in
    let new = c.take_tables.new.apart in
    let types = c.args.read.now.types in
    let parts = parts_of (files_of opened) c.in-Some.apart new c.in-Some.ensures.none c.take_tables.ensures in
    kinds_of_parts g.F.R.Reader.bytes types (files_of opened) new.files.items parts.heads parts.wanted (each_ready g.F.R.Reader.bytes types opened c.requires.ready)

pub returns-in_err-made-clause-lent : goal.returns-in_err-made-clause-lent
returns-in_err-made-clause-lent g c =
    let none = ap length c.in-Some.ensures.none.readers in
    omega (arith, c.read_apart.ensures.lent, c.take_tables.ensures.readers_len, none, c.in-Some.apart.readers.ok.0, count-files c.args.opened.items)

pub returns-clause-made : goal.returns-clause-made
returns-clause-made g c =
    let bytes = g.F.R.Reader.bytes in
    let opened = c.args.opened.items in
    let new = c.take_tables.new.apart in
    let parts = parts_of (files_of opened) c.in-Some.apart new c.in-Some.ensures.none c.take_tables.ensures in
    made_as c.args.read.now c.args.crew.now.workers (AllTell bytes new.readers.items) (AreTold bytes opened) (seen_of new.files.items new.numbers.items (map bytes new.readers.items)) (flat_map (table_seen bytes) opened)
    c.in_ok-made.made (tell_all bytes opened new.readers.items parts.readers_are) (parts_are bytes opened new.files.items new.numbers.items new.readers.items parts) c.in_ok-made.ensures.made

pub returns-clause-lent : goal.returns-clause-lent
returns-clause-lent g c =
    let none = ap length c.in-Some.ensures.none.readers in
    omega (arith, c.read_apart.ensures.lent, c.take_tables.ensures.readers_len, none, c.in-Some.apart.readers.ok.0, count-files c.args.opened.items)
