use Rattle.eval_typed.proofs.Law.{law_of_types}
use Rattle.eval_typed.proofs.value_fits_its_type.Goals as goal

pub returns : goal.returns
returns c = law_of_types
