use Rattle.set_places.proofs.OperationLaws.{taken_rows_of, union_rows}
use Rattle.set_places.proofs.laws.taken_rows_are_the_operation.Goals as goal

pub returns : goal.returns
returns c = record { first = λ op first others all h k e. taken_rows_of op first others all h k e; union = union_rows }
