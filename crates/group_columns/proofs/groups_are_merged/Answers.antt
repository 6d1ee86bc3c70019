use Rattle.group_columns.proofs.ColumnLaws.{groups_more}
use Rattle.group_columns.proofs.groups_are_merged.Goals as goal

pub returns : goal.returns
returns c = groups_more
