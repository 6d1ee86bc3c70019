use Rattle.run_accepted.proofs.AcceptedLaws.{accepted_shaped}
use Rattle.run_accepted.proofs.rows.rows_of_plan.Goals as goal

pub open_reads-requires-clause-shaped : goal.open_reads-requires-clause-shaped
open_reads-requires-clause-shaped g c κs within = accepted_shaped c.args.plan.now c.in-Ok.reads.items c.requires.accepted c.in-Ok.ensures.reads
