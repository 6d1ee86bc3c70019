use Rattle.text_match.proofs.TextLaws.{begins-starts_with}
use Rattle.text_match.proofs.text.starts_with.Goals as goal

pub returns : goal.returns
returns c = begins-starts_with c.args.text.now c.args.pattern.now c.starts_with.result c.starts_with.ensures.value
