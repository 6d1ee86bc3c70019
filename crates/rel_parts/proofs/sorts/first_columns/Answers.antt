use Rattle.std.proofs.Common.{rules}
use Rattle.rel_parts.proofs.ListLaws.{next_column}
use Rattle.rel_parts.proofs.sorts.first_columns.Goals as goal

pub loop-column-preserved : goal.loop-column-preserved
loop-column-preserved c = rw next_column (search rules)
