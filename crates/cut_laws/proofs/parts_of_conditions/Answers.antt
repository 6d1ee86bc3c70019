use Rattle.cut_laws.proofs.ConditionLaws.{keys_typed, rest_typed}
use Rattle.cut_laws.proofs.parts_of_conditions.Goals as goal

pub returns : goal.returns
returns c = record { keys = keys_typed; rest = rest_typed }
