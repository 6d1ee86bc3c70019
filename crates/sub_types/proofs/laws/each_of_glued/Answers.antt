use Rattle.sub_types.proofs.StreamLaws.{each-glue}
use Rattle.sub_types.proofs.laws.each_of_glued.Goals as goal

pub returns : goal.returns
returns g c = each-glue
