use Rattle.std.proofs.Common.{Some, None, Err, ap, sym, subst}
use Rattle.arrow_decode.specs.declared.error.RawError.{RawError}
use Rattle.batch.specs.BatchRows.{rows_of}
use Rattle.block_rows.specs.Made.{IsRowsAt, block_at, rows_with}
use Rattle.block_rows.proofs.MadeLaws.{made_of, rows_found}
use Rattle.block_rows.proofs.made.whole_rows.Goals as goal

pub returns-in_ok-piece-in-Ok : goal.returns-in_ok-piece-in-Ok
returns-in_ok-piece-in-Ok c = λ same.
    let rows = c.args.rows.now in
    let place = c.args.place in
    let piece = c.in_ok-piece-in-Ok.piece in
    let made = c.in_ok-piece-in-Ok.ensures in
    let found = rows_of c.in-Ok.batch in
    let all = rows_with rows place c.args.raw.now in
    let is = rows_found rows place c.args.raw.now c.index-file.result.now c.deref.result.now (Some found) c.requires.file c.index-file.ensures c.deref.ensures.value c.in-Ok.ensures.rows in
    subst (IsRowsAt rows place (block_at rows place all)) (sym c.outcome_of.ensures) (made_of rows place found piece.batch piece.end all made.types made.fit made.stream is)

pub returns-in_ok-made-in-Err-BadBatch : goal.returns-in_ok-made-in-Err-BadBatch
returns-in_ok-made-in-Err-BadBatch c = λ same.
    let rows = c.args.rows.now in
    let place = c.args.place in
    let bad = c.in-Err-BadBatch.ensures.bad (ap (λ (e : RawError). Err e) c.in-Err-BadBatch.field-0-is) in
    let none = rows_found rows place c.args.raw.now c.index-file.result.now c.deref.result.now None c.requires.file c.index-file.ensures c.deref.ensures.value bad in
    subst (λ all. IsRowsAt rows place (block_at rows place all) c.in_ok-made-in-Err-BadBatch.made) (sym none) c.in_ok-made-in-Err-BadBatch.ensures
