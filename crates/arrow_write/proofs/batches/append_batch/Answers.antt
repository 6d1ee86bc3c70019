use Rattle.std.proofs.Common.{◌≡◌, ◌+◌, ◌%◌, ◌^◌, ◌∙◌, length, take, drop, ℕ, List, subst, ap, arith}
use Rattle.std.specs.List.{flat_map}
use Rattle.batch.specs.BatchRows.{rows_of}
use Rattle.arrow_meta.specs.File.{batch_message}
use Rattle.arrow_write.specs.Cut.{rows_before}
use Rattle.arrow_write.specs.Pieces.{IsPartAppended}
use Rattle.arrow_write.specs.Progress.{Sends}
use Rattle.arrow_write.proofs.Parts.{at_ok, on_err}
use Rattle.arrow_write.proofs.MessageLaws.{kept_number, kept_number32}
use Rattle.arrow_write.proofs.Sending.{Sends-block}
use Rattle.arrow_write.proofs.batches.append_batch.Goals as goal

pub returns-clause-sends : goal.returns-clause-sends
returns-clause-sends g c =
    let rows = take c.args.count (drop (rows_before c.args.batches.now c.args.progress.now.cursor) (flat_map rows_of c.args.batches.now)) in
    let message = c.in_ok-message.message in
    let is = c.in_ok-message.ensures.message in
    let old = c.args.progress.now in
    let size : c.len.result ≡ length message.bytes.items = omega (arith, c.len.ensures, message.bytes.ok.0) in
    at_ok (Sends c.args.types.now rows old _) c.append.result
    (Sends-block c.args.types.now rows message old _ _ is c.in_ok-push.ensures.items
    (kept_number old.end c.cast_signed.result c.cast_signed.ensures (omega arith)) (kept_number32 (message.meta_len + 8) c.cast_signed-2.result c.cast_signed-2.ensures (omega (arith, is.small)))
    (kept_number message.body_len c.cast_signed-3.result c.cast_signed-3.ensures (omega arith)) (ap (λ n. (old.end + n) % 2 ^ 64) size))

pub returns-clause-err : goal.returns-clause-err
returns-clause-err g c =
    let rows = take c.args.count (drop (rows_before c.args.batches.now c.args.progress.now.cursor) (flat_map rows_of c.args.batches.now)) in
    let before = g.F.Folder.files c.args.folder.now in
    let now = g.F.Folder.files c.append.new.folder in
    let left = λ (piece : List ℕ). IsPartAppended before now c.args.name.now piece in
    on_err (left c.deref.result.now) (left (batch_message c.args.types.now rows)) c.append.result (subst left (c.deref.ensures.value ∙ c.in_ok-message.ensures.message.bytes)) c.append.ensures.err
