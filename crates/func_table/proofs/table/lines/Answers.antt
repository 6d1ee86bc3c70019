use Rattle.std.proofs.Common.{refl}
use Rattle.func_table.specs.Table.{table}
use Rattle.func_table.proofs.table.lines.Goals as goal

pub returns : goal.returns
unfolding table
returns c = refl
