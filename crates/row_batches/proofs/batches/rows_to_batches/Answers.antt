use Rattle.std.proofs.Common.{◌≡◌, ◌∙◌, ◌+◌, ◌*◌, ◌/◌, ap, length, min, arith}
use Rattle.std.specs.List.{slice_range}
use Rattle.row_batches.specs.Parts.{PART_ROWS}
use Rattle.row_batches.proofs.MadeLaws.{MadeBatches-none, MadeBatches-more, MadeBatches-rows, MadeBatches-parts}
use Rattle.row_batches.proofs.PartLaws.{part-is}
use Rattle.row_batches.proofs.batches.rows_to_batches.Goals as goal

pub loop-number-init : goal.loop-number-init
loop-number-init c = rw c.new-batches.ensures.items (MadeBatches-none c.args.types.now c.args.rows.now)

pub loop-number-preserved : goal.loop-number-preserved
loop-number-preserved c =
    let batch = c.in_ok-rows_to_batch.field-0 in
    let clauses = c.in_ok-rows_to_batch.ensures in
    let rows = c.args.rows.now in
    let from = c.loop-number.number * PART_ROWS in
    let cut : c.min-to.result ≡ min (length rows) (from + PART_ROWS) = omega (arith, c.min-to.ensures) in
    let here = clauses.rows ∙ ap (λ to. slice_range rows from to) cut ∙ part-is rows c.loop-number.number in
    rw c.in_ok-push.ensures.items (MadeBatches-more c.args.types.now c.args.rows.now c.loop-number.batches.items c.loop-number.number batch here clauses.types c.loop-number.invariant)

pub returns-clause-rows : goal.returns-clause-rows
returns-clause-rows c =
    let done : c.loop-number.number ≡ (length c.args.rows.now + 1023) / PART_ROWS = omega arith in
    MadeBatches-rows c.args.types.now c.args.rows.now c.loop-number.batches.items c.loop-number.number done c.loop-number.invariant

pub returns-clause-parts : goal.returns-clause-parts
returns-clause-parts c =
    let done : c.loop-number.number ≡ (length c.args.rows.now + 1023) / PART_ROWS = omega arith in
    MadeBatches-parts c.args.types.now c.args.rows.now c.loop-number.batches.items c.loop-number.number done c.loop-number.invariant
