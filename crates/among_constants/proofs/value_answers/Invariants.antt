use Rattle.std.proofs.Common.{◌≡◌, map, take}
use Rattle.batch_nodes.specs.Found.{found_values}
use Rattle.value_sets.specs.Sets.{answer_by, has}
use Rattle.among_constants.proofs.value_answers.Given as goal

-- what is said of the values so far
abbrev pub invariant-loop-i : goal.invariant-loop-i
invariant-loop-i l = (l.built.values ≡ map (answer_by (has l.set)) (take l.i (found_values l.values))) × (l.built.ty ≡ l.fn.ty)
