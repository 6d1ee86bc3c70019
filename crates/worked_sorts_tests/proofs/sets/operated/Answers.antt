use Rattle.std.proofs.Common.{◌∷◌, []}
use Rattle.worked_sorts_tests.specs.declared.columns.TheConstants.{NUMBER}
use Rattle.worked_sorts_tests.proofs.TypeLaws.{inputs_alike}
use Rattle.worked_sorts_tests.proofs.sets.operated.Goals as goal

pub set_op-requires-clause-alike : goal.set_op-requires-clause-alike
set_op-requires-clause-alike c = inputs_alike (NUMBER ∷ []) c.args.inputs.items c.requires
