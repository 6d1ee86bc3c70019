use Rattle.std.proofs.Common.{◌∙◌}
use Rattle.text_match.proofs.TextLaws.{contains-find}
use Rattle.text_match.proofs.text.contains.Goals as goal

pub returns : goal.returns
returns c = c.is_some.ensures ∙ contains-find c.args.text.now c.args.pattern.now c.find.result c.find.ensures
