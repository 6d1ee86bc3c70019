use Rattle.std.proofs.Common.{rules}
use Rattle.std.specs.Option.{option_map}
use Rattle.plan_denote.specs.Eval.{eval}
use Rattle.plan_denote.specs.Rows.{condition_of}
use Rattle.plan_denote.specs.Read.{read_rows, read_row}
use Rattle.row_steps.proofs.read.read_rows.Goals as goal

pub returns : goal.returns
unfolding read_rows
returns c = c.each_row.ensures (read_row c.args.types.now (condition_of (option_map eval c.args.filter.now)) c.args.mask.now) (λ _ _ post. search rules)
