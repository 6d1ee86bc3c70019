use Rattle.std.proofs.Common.{ap, subst}
use Rattle.table_round.specs.Below.{StartsWithRead, StepsSeen}
use Rattle.read_rounds.proofs.files.read_named.Goals as goal

pub read_at-requires-clause-reads : goal.read_at-requires-clause-reads
read_at-requires-clause-reads g c κs within = subst StartsWithRead (ap (λ (pipe : StepsSeen). pipe.steps) c.pipe.view_is) (c.starts_with_read.ensures c.if-not-starts_with_read.false)
