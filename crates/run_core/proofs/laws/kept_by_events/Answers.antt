use Rattle.run_core.specs.Machine.{start}
use Rattle.run_core.proofs.Runs.{start_keeps, leads_keeps}
use Rattle.run_core.proofs.laws.kept_by_events.Goals as goal

pub returns : goal.returns
returns c = λ n workers bound events m leads. leads_keeps (start n workers bound) events m leads (start_keeps n workers bound)
