use Rattle.std.proofs.Common.{rules}
use Rattle.std.proofs.Common.{map}
use Rattle.plan_denote.specs.Eval.{eval}
use Rattle.plan_denote.specs.Project.{projected, project_row}
use Rattle.row_steps.proofs.project.projected.Goals as goal

pub returns : goal.returns
unfolding projected
returns c = c.each_row.ensures (project_row (map eval c.args.exprs.now)) (λ _ _ post. search rules)
