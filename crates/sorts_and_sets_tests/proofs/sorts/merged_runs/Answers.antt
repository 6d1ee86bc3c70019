use Rattle.std.proofs.Common.{◌∷◌, []}
use Rattle.sorts_and_sets_tests.specs.declared.drawn.TheConstants.{NUMBER, BINARY}
use Rattle.sorts_and_sets_tests.proofs.TypeLaws.{runs_alike, runs_below}
use Rattle.sorts_and_sets_tests.proofs.sorts.merged_runs.Goals as goal

pub interleave-requires-clause-columns : goal.interleave-requires-clause-columns
interleave-requires-clause-columns c = runs_below NUMBER BINARY c.in_ok-runs.runs.items c.args.keys.now c.in_ok-runs.ensures c.requires

pub interleave-requires-clause-alike : goal.interleave-requires-clause-alike
interleave-requires-clause-alike c = runs_alike (NUMBER ∷ BINARY ∷ []) c.in_ok-runs.runs.items c.in_ok-runs.ensures
