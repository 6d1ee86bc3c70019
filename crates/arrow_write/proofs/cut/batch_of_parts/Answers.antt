use Rattle.std.proofs.Common.{◌≡◌, length, arith}
use Rattle.arrow_write.specs.Cut.{place_of_parts}
use Rattle.arrow_write.proofs.CutLaws.{cut_at, CutColumns-more, CutColumns-sized, CutColumns-rows}
use Rattle.arrow_write.proofs.cut.batch_of_parts.Goals as goal

pub loop-index-preserved : goal.loop-index-preserved
loop-index-preserved c =
    rw c.in_ok-push.ensures.items (CutColumns-more c.args.types.now (cut_at c.args.batches.now c.args.parts.now) c.loop-index.columns.items c.loop-index.index c.in_ok-column_of_parts.field-0 c.loop-index-test.true c.in_ok-column_of_parts.ensures.values c.in_ok-column_of_parts.ensures.ty c.loop-index.invariant)

pub invariant_of-result : goal.invariant_of-result
invariant_of-result c =
    let done : c.loop-index.index ≡ length c.args.types.now = omega arith in
    record { sized = CutColumns-sized c.args.types.now c.args.batches.now c.args.parts.now (place_of_parts c.args.batches.now c.args.parts.now) c.args.count c.loop-index.columns.items c.loop-index.index done c.requires.alike c.requires.lie c.requires.rows c.requires.enough c.loop-index.invariant }

pub returns-clause-rows : goal.returns-clause-rows
returns-clause-rows c =
    let done : c.loop-index.index ≡ length c.args.types.now = omega arith in
    CutColumns-rows c.args.types.now c.args.batches.now c.args.parts.now (place_of_parts c.args.batches.now c.args.parts.now) c.args.count c.loop-index.columns.items c.loop-index.index done c.requires.alike c.requires.lie c.requires.rows c.requires.enough c.loop-index.invariant
