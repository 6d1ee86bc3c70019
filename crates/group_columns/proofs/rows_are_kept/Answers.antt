use Rattle.group_columns.proofs.ColumnLaws.{rows_more}
use Rattle.group_columns.proofs.rows_are_kept.Goals as goal

pub returns : goal.returns
returns c = rows_more
