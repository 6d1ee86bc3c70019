use Rattle.demo_laws.proofs.ReadsLaws.{reads_are}
use Rattle.demo_laws.proofs.plan.demo_plan_reads.Goals as goal

pub returns : goal.returns
returns c = reads_are
