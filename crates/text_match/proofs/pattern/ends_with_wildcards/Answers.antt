use Rattle.std.proofs.Common.{◌∙◌, chars}
use Rattle.text_match.proofs.EndLaws.{ends_with_segment-as_long, ends_with_segment-short}
use Rattle.text_match.proofs.pattern.ends_with_wildcards.Goals as goal

pub returns-in-Some : goal.returns-in-Some
returns-in-Some c = c.is_segment.ensures ∙ ends_with_segment-as_long c.args.text.now c.args.segment.now c.in-Some.end.now c.in-Some.ensures

pub returns-in-None : goal.returns-in-None
returns-in-None c = ends_with_segment-short (chars c.args.text.now) (chars c.args.segment.now) c.in-None.ensures
