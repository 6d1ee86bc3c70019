use Rattle.std.proofs.Common.{◌≡◌, ◌+◌, [], ◌∷◌, List, length, sym, ap, refl, subst, arith}
use Rattle.std.specs.List.{All}
use Rattle.std.proofs.lemmas.List.Elements.{All-head, All-rest}
use Rattle.std.specs.Vec.Iter.{into_iter_items}
use Rattle.table_open.specs.declared.file.OpenFile.{OpenFile}
use Rattle.table_open.specs.Ready.{IsReady}
use Rattle.plan_tables.proofs.FileLaws.{none_left}
use Rattle.open_blocks.specs.Apart.{HasRoom}
use Rattle.open_blocks.proofs.TakenLaws.{TakenSoFar, none_taken, more_taken, all_taken, less_room}
use Rattle.open_blocks.proofs.apart.take_table.Goals as goal

pub loop-file-init : goal.loop-file-init
loop-file-init g c =
    let gives = c.into_iter-file-iterator.ensures.into_iter_gives in
    record {
      taken = subst (λ left. TakenSoFar c.args.table.items left c.args.apart.now c.args.apart.now) (sym gives.0) (none_taken c.args.table.items c.args.apart.now);
      room = subst (λ (left : List (OpenFile g.row.R.Denot)). HasRoom (length left) c.args.apart.now) (sym gives.0) c.requires.room;
      ready = (c.requires.ready.0, subst (All (IsReady g.R.Reader.bytes c.requires.ready.0)) (sym gives.0) c.requires.ready.1);
    }

pub take_file-requires-clause-room : goal.take_file-requires-clause-room
take_file-requires-clause-room g c =
    let room = c.loop-file.invariant.room in
    let many = ap length c.in-Some.ensures.steps.0 in
    record { files = omega (arith, room.files, many); numbers = omega (arith, room.numbers, many); readers = omega (arith, room.readers, many) }

pub take_file-requires-clause-ready : goal.take_file-requires-clause-ready
take_file-requires-clause-ready g c =
    let ready = c.loop-file.invariant.ready in
    (ready.0, All-head (IsReady g.R.Reader.bytes ready.0) c.in-Some.file (into_iter_items c.next.new.self) (subst (All (IsReady g.R.Reader.bytes ready.0)) c.in-Some.ensures.steps.0 ready.1))

pub loop-file-preserved : goal.loop-file-preserved
loop-file-preserved g c =
    let before = c.loop-file.invariant in
    let step = c.in-Some.ensures.steps.0 in
    let file = c.in-Some.file in
    let rest = into_iter_items c.next.new.self in
    let added = c.take_file.ensures.added in
    record {
      taken = more_taken c.args.table.items (file ∷ []) rest c.args.apart.now c.loop-file.apart c.take_file.new.apart (subst (λ left. TakenSoFar c.args.table.items left c.args.apart.now c.loop-file.apart) step before.taken) added;
      room = less_room (length (into_iter_items c.loop-file.file-iterator)) 1 (length rest) (file ∷ []) c.loop-file.apart c.take_file.new.apart before.room added refl (let more : length (into_iter_items c.loop-file.file-iterator) ≡ 1 + length rest = omega (arith, ap length step) in more);
      ready = (before.ready.0, All-rest (IsReady g.R.Reader.bytes before.ready.0) file rest _ step before.ready.1);
    }

pub returns : goal.returns
returns g c =
    let left = into_iter_items c.loop-file.file-iterator in
    let none : left ≡ [] = none_left left (omega (arith, c.in-None.ensures.steps.0)) in
    record { added = all_taken c.args.table.items left c.args.apart.now c.loop-file.apart none c.loop-file.invariant.taken }
