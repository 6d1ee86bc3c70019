use Rattle.std.proofs.Common.{◌∙◌, Some, None, chars, sym}
use Rattle.text_match.proofs.SegmentLaws.{is_like-segment}
use Rattle.text_match.proofs.StepLaws.{is_like-split}
use Rattle.text_match.proofs.pattern.like.Goals as goal

pub returns-in_default : goal.returns-in_default
returns-in_default c =
    c.is_segment.ensures ∙ sym (is_like-segment (chars c.args.pattern.now) (chars c.args.text.now) c.in_default.ensures)

pub returns-in_default-after_segment : goal.returns-in_default-after_segment
returns-in_default-after_segment c =
    is_like-split c.args.text.now c.args.pattern.now c.in-Some.segment.now c.in-Some.later.now None c.in-Some.ensures c.in_default-after_segment.ensures.value

pub returns : goal.returns
returns c =
    c.ends_like.ensures
    ∙ is_like-split c.args.text.now c.args.pattern.now c.in-Some.segment.now c.in-Some.later.now (Some (chars c.in-Some-after_segment.rest.now)) c.in-Some.ensures c.in-Some-after_segment.ensures.value
