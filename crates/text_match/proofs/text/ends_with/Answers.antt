use Rattle.text_match.proofs.TextLaws.{ends-ends_with}
use Rattle.text_match.proofs.text.ends_with.Goals as goal

pub returns : goal.returns
returns c = ends-ends_with c.args.text.now c.args.pattern.now c.ends_with.result c.ends_with.ensures.value
