use Rattle.eval_typed.proofs.Law.{law_of_rows}
use Rattle.eval_typed.proofs.values_fit_their_types.Goals as goal

pub returns : goal.returns
returns c = law_of_rows
