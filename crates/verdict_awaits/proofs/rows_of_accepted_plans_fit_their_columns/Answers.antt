use Rattle.verdict_awaits.proofs.Law.{law_of_rows}
use Rattle.verdict_awaits.proofs.rows_of_accepted_plans_fit_their_columns.Goals as goal

pub returns : goal.returns
returns c = law_of_rows
