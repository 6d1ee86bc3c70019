use Rattle.func_table.proofs.KeyLaws.{stripped}
use Rattle.func_table.proofs.key.after.Goals as goal

pub returns : goal.returns
returns c = stripped c.args.bytes.now c.args.text.now c.strip_prefix.result c.strip_prefix.ensures.cases
