use Rattle.std.proofs.Common.{◌∙◌, arith}
use Rattle.kernels.proofs.RowsLaws.{all-rows}
use Rattle.kernels.proofs.selected.Rows.of.Goals as goal

pub returns-then-len-count : goal.returns-then-len-count
returns-then-len-count c = c.all.ensures ∙ all-rows c.args.count c.args.on.now.rows.items c.args.on.now.rising c.requires (omega (arith, c.len.ensures, c.if-len-count.true))
