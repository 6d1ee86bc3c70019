use Rattle.std.proofs.Common.{◌∷◌, []}
use Rattle.sorts_and_sets_tests.specs.declared.drawn.TheConstants.{NUMBER, BINARY}
use Rattle.sorts_and_sets_tests.proofs.TypeLaws.{inputs_alike}
use Rattle.sorts_and_sets_tests.proofs.sets.operated.Goals as goal

pub set_op-requires-clause-alike : goal.set_op-requires-clause-alike
set_op-requires-clause-alike c = inputs_alike (NUMBER ∷ BINARY ∷ []) c.args.inputs.items c.requires
