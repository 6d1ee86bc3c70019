use Rattle.row_ops.proofs.BehindLaws.{project_stream}
use Rattle.row_ops.proofs.projecting.project.Goals as goal

pub returns-clause-stream : goal.returns-clause-stream
returns-clause-stream c =
    project_stream c.args.relation c.args.exprs.now c.args.input.batch c.args.input.end c.in_ok-made.made c.in_ok-batch.batch c.end_after.result c.in_ok-made.ensures c.in_ok-batch.ensures.rows c.end_after.ensures
