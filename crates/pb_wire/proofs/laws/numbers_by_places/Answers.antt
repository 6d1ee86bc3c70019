use Rattle.pb_wire.proofs.NumberLaws.{found, only}
use Rattle.pb_wire.proofs.laws.numbers_by_places.Goals as goal

pub returns-clause-found : goal.returns-clause-found
returns-clause-found c = found

pub returns-clause-only : goal.returns-clause-only
returns-clause-only c = only
