use Rattle.denote_typed.proofs.Law.{law_of_relations}
use Rattle.denote_typed.proofs.rows_fit_their_columns.Goals as goal

pub returns : goal.returns
returns c = law_of_relations
