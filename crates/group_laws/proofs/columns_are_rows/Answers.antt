use Rattle.group_laws.proofs.ColumnLaws.{entries_by_columns}
use Rattle.group_laws.proofs.columns_are_rows.Goals as goal

pub returns : goal.returns
returns c = entries_by_columns
