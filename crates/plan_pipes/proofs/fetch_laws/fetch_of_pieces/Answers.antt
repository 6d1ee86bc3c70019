use Rattle.plan_pipes.proofs.FetchLaws.{fetched-glue}
use Rattle.plan_pipes.proofs.fetch_laws.fetch_of_pieces.Goals as goal

pub returns : goal.returns
returns c = fetched-glue
