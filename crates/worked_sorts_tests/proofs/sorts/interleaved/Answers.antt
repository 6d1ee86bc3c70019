use Rattle.std.proofs.Common.{◌∷◌, []}
use Rattle.worked_sorts_tests.specs.declared.columns.TheConstants.{NUMBER, BINARY}
use Rattle.worked_sorts_tests.proofs.TypeLaws.{runs_alike, runs_below}
use Rattle.worked_sorts_tests.proofs.sorts.interleaved.Goals as goal

pub interleave-requires-clause-columns : goal.interleave-requires-clause-columns
interleave-requires-clause-columns c = runs_below NUMBER BINARY c.args.runs.items c.args.keys.now c.requires.types c.requires.keys

pub interleave-requires-clause-alike : goal.interleave-requires-clause-alike
interleave-requires-clause-alike c = runs_alike (NUMBER ∷ BINARY ∷ []) c.args.runs.items c.requires.types
