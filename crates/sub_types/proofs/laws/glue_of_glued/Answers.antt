use Rattle.sub_types.proofs.StreamLaws.{glue-append, glue-flat}
use Rattle.sub_types.proofs.laws.glue_of_glued.Goals as goal

pub returns : goal.returns
returns g c = record { groups = glue-append; nested = glue-flat }
