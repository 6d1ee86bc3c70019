use Rattle.std.proofs.Common.{◌∙◌, ◌<◌, length, get_or, sym, ap, arith}
use Rattle.std.proofs.lemmas.List.{get_or_default, get_or_read}
use Rattle.join_marks.specs.Marked.{either}
use Rattle.pipe_round.proofs.MergedLaws.{as_many, rows_at_place, merged_more, rows_kept, left_kept, all_merged}
use Rattle.pipe_round.proofs.merging.merge_each.Goals as goal

pub merge-requires : goal.merge-requires
merge-requires c =
    let l = c.loop-at in
    let others = c.args.others.now in
    let same = c.requires ∙ sym l.invariant.rows in
    let below : l.at < length others = c.loop-at-test.true in
    ap length c.index-others-at.is
    ∙ rows_at_place l.marks others l.at c.index-others-at.result same
    ∙ ap length (get_or_default l.marks l.at c.index-others-at.result c.index-marks-at.result (omega (arith, below, as_many l.marks others same)))

pub loop-at-preserved : goal.loop-at-preserved
loop-at-preserved c =
    let l = c.loop-at in
    let start = c.args.marks.now in
    let others = c.args.others.now in
    let own = c.index-marks-at.result in
    let new = c.merge.new.self in
    let below : l.at < length others = c.loop-at-test.true in
    record {
      rows = rows_kept l.marks l.at new own c.merge.ensures.rows ∙ l.invariant.rows;
      left = left_kept start l.marks l.at new l.invariant.left;
      done = merged_more start l.marks others l.at new own c.requires l.invariant.rows below
          (c.merge.ensures.marked ∙ ap (either (get_or l.marks l.at own)) (get_or_read others l.at c.index-others-at.result below c.index-others-at.is own)) l.invariant.left l.invariant.done;
    }

pub returns-clause-merged : goal.returns-clause-merged
returns-clause-merged c =
    let l = c.loop-at in
    all_merged c.args.marks.now l.marks c.args.others.now l.at c.requires l.invariant.rows (omega arith) l.invariant.done
