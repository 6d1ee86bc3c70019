use Rattle.plan_pipes.proofs.FetchLaws.{fetched_glued}
use Rattle.plan_pipes.proofs.fetch_laws.fetch_of_glued.Goals as goal

pub returns : goal.returns
returns c = fetched_glued
