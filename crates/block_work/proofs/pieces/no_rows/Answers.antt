use Rattle.std.proofs.Common.{sym, ap, subst}
use Rattle.pipe_steps.specs.Tables.{joins_of}
use Rattle.pipe_work.specs.Pipe.{StepsSeen}
use Rattle.block_work.specs.Reads.{StartsWithRead}
use Rattle.block_work.proofs.KindLaws.{kinds_over}
use Rattle.block_work.proofs.pieces.no_rows.Goals as goal

pub join_batches-requires-clause-kinds : goal.join_batches-requires-clause-kinds
join_batches-requires-clause-kinds c =
    let pipe = c.pipe.inside in
    kinds_over (joins_of pipe.tables.now) pipe.types.now pipe.steps.now (subst StartsWithRead (sym (ap (λ (way : StepsSeen). way.steps) c.pipe.view_is)) c.requires) c.pipe.invariant.0
