use Rattle.std.proofs.Common.{◌∙◌, ap, codes}
use Rattle.std.proofs.lemmas.Str.Pattern.{ends_text}
use Rattle.func_table.specs.Options.{options_at}
use Rattle.func_table.proofs.options.options_of.Goals as goal

pub returns : goal.returns
returns c = c.options_at.ensures ∙ ap (λ of_decimals. options_at of_decimals c.args.row.now.func) (ends_text c.ends_with.result (codes "dec") c.args.row.now.key.now c.ends_with.ensures.cases)
