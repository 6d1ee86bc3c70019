use Rattle.std.proofs.Common.{◌∙◌, Some, None, chars, sym}
use Rattle.text_match.proofs.SegmentLaws.{some_end-segment}
use Rattle.text_match.proofs.StepLaws.{some_end-split}
use Rattle.text_match.proofs.pattern.ends_like.Goals as goal

pub returns-in_default-after_leftmost : goal.returns-in_default-after_leftmost
returns-in_default-after_leftmost c =
    some_end-split c.loop-segment.rest.now c.loop-segment.signs.now c.in-Some.segment.now c.in-Some.later.now None c.in-Some.ensures c.in_default-after_leftmost.ensures.value
    ∙ c.loop-segment.invariant.2

pub loop-segment-preserved : goal.loop-segment-preserved
loop-segment-preserved c =
    let split = c.in-Some.ensures in
    let after = c.in-Some-after_leftmost.ensures in (
      after.utf8,
      split.rest_utf8,
      some_end-split c.loop-segment.rest.now c.loop-segment.signs.now c.in-Some.segment.now c.in-Some.later.now (Some (chars c.in-Some-after_leftmost.after.now)) split after.value
          ∙ c.loop-segment.invariant.2,
    )

pub returns : goal.returns
returns c =
    c.ends_with_segment.ensures
    ∙ sym (some_end-segment (chars c.loop-segment.signs.now) (chars c.loop-segment.rest.now) c.in_default.ensures)
    ∙ c.loop-segment.invariant.2
