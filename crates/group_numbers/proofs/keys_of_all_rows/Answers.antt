use Rattle.group_numbers.proofs.DistinctLaws.{with_keys-distinct, distinct_keys}
use Rattle.group_numbers.proofs.keys_of_all_rows.Goals as goal

pub returns-clause-rows : goal.returns-clause-rows
returns-clause-rows c = with_keys-distinct

pub returns-clause-groups : goal.returns-clause-groups
returns-clause-groups c = distinct_keys
