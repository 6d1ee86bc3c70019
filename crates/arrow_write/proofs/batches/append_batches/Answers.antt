use Rattle.std.proofs.Common.{◌≡◌, ◌+◌, ◌*◌, ◌<◌, ◌≤◌, ◌++◌, ◌∷◌, ◌∙◌, [], length, map, take, drop, get_or, sym, ap, refl, subst, arith}
use Rattle.std.specs.List.{flat_map}
use Rattle.std.proofs.lemmas.List.{take_all, take_more, length_push, length-map}
use Rattle.world.specs.Files.{appended, Has}
use Rattle.batch.specs.BatchRows.{rows_of}
use Rattle.arrow_meta.specs.File.{batches as cut, batch_message}
use Rattle.arrow_meta.specs.Meta.{place_of}
use Rattle.arrow_write.specs.Cut.{rows_in, rows_before}
use Rattle.arrow_write.specs.Pieces.{IsPartAppended}
use Rattle.arrow_write.specs.Progress.{block_at}
use Rattle.arrow_write.proofs.Parts.{at_err}
use Rattle.arrow_write.proofs.Sending.{Sent, Sent-none, Sent-more, length-cut, next_rows, length-all_rows, appended-appended, Has-appended, appended-none, part_of_whole, messages-more, messages-split}
use Rattle.arrow_write.proofs.batches.append_batches.Goals as goal

pub loop-k-init : goal.loop-k-init
loop-k-init g c =
    record {
      files = sym (appended-none (g.F.Folder.files c.args.folder.now) c.args.name.now c.requires.has);
      has = c.requires.has;
      sent = Sent-none c.args.types.now c.args.start _ c.new.ensures.items refl;
      many = ap length c.new.ensures.items;
      place = omega arith;
      inside = omega arith;
      never_falls = omega arith;
      reads = refl;
      read_faults = refl;
      lent = refl;
    }

pub loop-k-preserved : goal.loop-k-preserved
loop-k-preserved g c =
    let types = c.args.types.now in
    let rows = flat_map rows_of c.args.batches.now in
    let all = cut rows in
    let k = c.loop-k.k in
    let sent = take k all in
    let place = rows_before c.args.batches.now c.loop-k.progress.cursor in
    let next = take c.min-size.result (drop place rows) in
    let so_far = c.loop-k.invariant in
    let after = c.in_ok-append_batch.ensures in
    let total : length rows ≡ rows_in c.args.batches.now = length-all_rows c.args.batches.now in
    let below : k < length all = omega (arith, length-cut rows, total, c.row_count-rows.ensures, c.loop-k-test.true) in
    let place_is : place ≡ 1024 * k = omega (arith, c.loop-k.invariant.place, c.row_count-rows.ensures, c.loop-k-test.true) in
    let here : get_or all k [] ≡ next = next_rows rows k place c.min-size.result below place_is (omega (arith, place_is, c.min-size.ensures, total, c.row_count-rows.ensures)) in
    let more : take (k + 1) all ≡ sent ++ next ∷ [] = take_more all k [] below ∙ ap (λ batch. sent ++ batch ∷ []) here in
    record {
      files = after.ok ∙ ap (λ files. appended files c.args.name.now (batch_message types next)) so_far.files
          ∙ appended-appended (g.F.Folder.files c.args.folder.now) c.args.name.now (flat_map (batch_message types) sent) (batch_message types next)
          ∙ ap (appended (g.F.Folder.files c.args.folder.now) c.args.name.now) (ap (λ batch. flat_map (batch_message types) sent ++ batch_message types batch) (sym here) ∙ sym (messages-more types all k below));
      has = subst (λ files. Has files c.args.name.now) (sym after.ok) (Has-appended (g.F.Folder.files c.loop-k.folder) c.args.name.now (batch_message types next));
      sent = subst (λ bs. Sent types bs c.args.start c.append_batch.new.progress) (sym more) (Sent-more types sent next c.args.start c.loop-k.progress c.append_batch.new.progress so_far.sent after.sends);
      many = omega (arith, length-map c.append_batch.new.progress.blocks.items place_of, ap length after.sends.blocks, length_push (map place_of c.loop-k.progress.blocks.items) (block_at c.loop-k.progress.end types next), length-map c.loop-k.progress.blocks.items place_of, so_far.many);
      place = omega (arith, after.moved, place_is, c.min-size.ensures, c.row_count-rows.ensures);
      inside = after.inside;
      never_falls = omega (arith, so_far.never_falls, after.cause.never_falls);
      reads = after.reads ∙ so_far.reads;
      read_faults = after.read_faults ∙ so_far.read_faults;
      lent = after.lent ∙ so_far.lent;
    }

pub returns-in_err-append_batch-clause-err : goal.returns-in_err-append_batch-clause-err
returns-in_err-append_batch-clause-err g c =
    let types = c.args.types.now in
    let rows = flat_map rows_of c.args.batches.now in
    let all = cut rows in
    let k = c.loop-k.k in
    let before = g.F.Folder.files c.args.folder.now in
    let now = g.F.Folder.files c.append_batch.new.folder in
    let place = rows_before c.args.batches.now c.loop-k.progress.cursor in
    let next = take c.min-size.result (drop place rows) in
    let front = flat_map (batch_message types) (take k all) in
    let rest = flat_map (batch_message types) (drop (k + 1) all) in
    let whole = flat_map (batch_message types) all in
    let total : length rows ≡ rows_in c.args.batches.now = length-all_rows c.args.batches.now in
    let below : k < length all = omega (arith, length-cut rows, total, c.row_count-rows.ensures, c.loop-k-test.true) in
    let place_is : place ≡ 1024 * k = omega (arith, c.loop-k.invariant.place, c.row_count-rows.ensures, c.loop-k-test.true) in
    let here : get_or all k [] ≡ next = next_rows rows k place c.min-size.result below place_is (omega (arith, place_is, c.min-size.ensures, total, c.row_count-rows.ensures)) in
    at_err (IsPartAppended before now c.args.name.now whole) c.from_residual.result
    (part_of_whole before (g.F.Folder.files c.loop-k.folder) now c.args.name.now front (batch_message types next) rest whole c.loop-k.invariant.files
    (messages-split types all k below ∙ ap (λ batch. front ++ batch_message types batch ++ rest) here) c.in_err-append_batch.ensures.err)

pub returns-clause-ok : goal.returns-clause-ok
returns-clause-ok g c =
    let all = cut (flat_map rows_of c.args.batches.now) in
    let done : length all ≤ c.loop-k.k = omega (arith, length-cut (flat_map rows_of c.args.batches.now), length-all_rows c.args.batches.now, c.row_count-rows.ensures, c.loop-k-test.false) in
    c.loop-k.invariant.files ∙ ap (λ batches. appended (g.F.Folder.files c.args.folder.now) c.args.name.now (flat_map (batch_message c.args.types.now) batches)) (take_all c.loop-k.k all done)

pub returns-clause-blocks : goal.returns-clause-blocks
returns-clause-blocks g c =
    let all = cut (flat_map rows_of c.args.batches.now) in
    let done : length all ≤ c.loop-k.k = omega (arith, length-cut (flat_map rows_of c.args.batches.now), length-all_rows c.args.batches.now, c.row_count-rows.ensures, c.loop-k-test.false) in
    (subst (λ batches. Sent c.args.types.now batches c.args.start c.loop-k.progress) (take_all c.loop-k.k all done) c.loop-k.invariant.sent).blocks
