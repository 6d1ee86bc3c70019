use Rattle.sort_merge.proofs.OrderLaws.{in_order-runs}
use Rattle.sort_merge.proofs.run_laws.sorted_runs_are_the_whole.Goals as goal

pub returns : goal.returns
returns c = in_order-runs
