use Rattle.cut_laws.proofs.TypeLaws.{each_typed}
use Rattle.cut_laws.proofs.each_pipe_is_typed.Goals as goal

pub returns : goal.returns
returns c = each_typed
