use Rattle.std.proofs.Common.{◌≡◌, ◌∙◌, [], List, length, sym, ap, refl, subst, arith}
use Rattle.std.specs.List.{All}
use Rattle.std.proofs.lemmas.List.Elements.{All-head, All-rest}
use Rattle.std.proofs.lemmas.List.Sums.{sum_by-cons}
use Rattle.std.specs.Vec.Iter.{into_iter_items}
use Rattle.table_open.specs.Ready.{IsReady}
use Rattle.plan_tables.specs.Open.{OpenTable, AreReady, count_files}
use Rattle.plan_tables.proofs.FileLaws.{none_left}
use Rattle.open_blocks.specs.Apart.{HasRoom, files_of}
use Rattle.open_blocks.proofs.TakenLaws.{TakenSoFar, none_taken, more_taken, all_taken, less_room}
use Rattle.open_blocks.proofs.apart.take_tables.Goals as goal

pub loop-table-init : goal.loop-table-init
loop-table-init g c =
    let gives = c.into_iter-table-iterator.ensures.into_iter_gives in
    let all = c.args.opened.items in
    record {
      taken = subst (λ left. TakenSoFar (files_of all) (files_of left) c.args.apart.now c.args.apart.now) (sym gives.0) (none_taken (files_of all) c.args.apart.now);
      room = subst (λ (left : List (OpenTable g.row.R.Denot)). HasRoom (count_files left) c.args.apart.now) (sym gives.0) c.requires.room;
      ready = (c.requires.ready.0, subst (AreReady g.R.Reader.bytes c.requires.ready.0) (sym gives.0) c.requires.ready.1);
    }

pub take_table-requires-clause-room : goal.take_table-requires-clause-room
take_table-requires-clause-room g c =
    let room = c.loop-table.invariant.room in
    let many = ap count_files c.in-Some.ensures.steps.0 ∙ sum_by-cons (λ (t : OpenTable g.row.R.Denot). length t.items) c.in-Some.table (into_iter_items c.next.new.self) in
    record { files = omega (arith, room.files, many); numbers = omega (arith, room.numbers, many); readers = omega (arith, room.readers, many) }

pub take_table-requires-clause-ready : goal.take_table-requires-clause-ready
take_table-requires-clause-ready g c =
    let ready = c.loop-table.invariant.ready in
    (ready.0, All-head (λ (t : OpenTable g.row.R.Denot). All (IsReady g.R.Reader.bytes ready.0) t.items) c.in-Some.table (into_iter_items c.next.new.self) (subst (AreReady g.R.Reader.bytes ready.0) c.in-Some.ensures.steps.0 ready.1))

pub loop-table-preserved : goal.loop-table-preserved
loop-table-preserved g c =
    let before = c.loop-table.invariant in
    let step = c.in-Some.ensures.steps.0 in
    let table = c.in-Some.table in
    let rest = into_iter_items c.next.new.self in
    let added = c.take_table.ensures.added in
    let all = c.args.opened.items in
    record {
      taken = more_taken (files_of all) table.items (files_of rest) c.args.apart.now c.loop-table.apart c.take_table.new.apart
          (subst (λ left. TakenSoFar (files_of all) (files_of left) c.args.apart.now c.loop-table.apart) step before.taken) added;
      room = less_room (count_files (into_iter_items c.loop-table.table-iterator)) (length table.items) (count_files rest) table.items c.loop-table.apart c.take_table.new.apart before.room added refl
          (ap count_files step ∙ sum_by-cons (λ (t : OpenTable g.row.R.Denot). length t.items) table rest);
      ready = (before.ready.0, All-rest (λ (t : OpenTable g.row.R.Denot). All (IsReady g.R.Reader.bytes before.ready.0) t.items) table rest _ step before.ready.1);
    }

pub returns : goal.returns
returns g c =
    let left = into_iter_items c.loop-table.table-iterator in
    let none : left ≡ [] = none_left left (omega (arith, c.in-None.ensures.steps.0)) in
    all_taken (files_of c.args.opened.items) (files_of left) c.args.apart.now c.loop-table.apart (ap files_of none) c.loop-table.invariant.taken
