use Rattle.group_laws.proofs.SameLaws.{same_rows}
use Rattle.group_keys.proofs.ItemLaws.{with_item-distinct}
use Rattle.group_keys.proofs.keys_are_distinct.Goals as goal

pub returns : goal.returns
returns c = with_item-distinct same_rows
