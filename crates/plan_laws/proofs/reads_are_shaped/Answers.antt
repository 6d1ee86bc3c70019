use Rattle.plan_laws.proofs.ShapeLaws.{law_of_shapes}
use Rattle.plan_laws.proofs.reads_are_shaped.Goals as goal

pub returns : goal.returns
returns c = law_of_shapes
