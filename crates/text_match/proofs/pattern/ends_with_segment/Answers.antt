use Rattle.std.proofs.Common.{not, ap, ◌∙◌}
use Rattle.memchr.specs.Find.{is_byte}
use Rattle.plan_denote.specs.Texts.{UNDERSCORE}
use Rattle.text_match.proofs.SignLaws.{IsFirstByte-none, ends_with_segment-literal}
use Rattle.text_match.proofs.pattern.ends_with_segment.Goals as goal

pub returns-then-is_none : goal.returns-then-is_none
returns-then-is_none c =
    let no_wildcard = IsFirstByte-none (is_byte UNDERSCORE) c.args.segment.now c.memchr.result (c.is_none.ensures ∙ ap not c.if-is_none.true) c.memchr.ensures in
    ends_with_segment-literal c.args.text.now c.args.segment.now c.ends_with.result c.requires.text c.requires.segment no_wildcard c.ends_with.ensures.value
