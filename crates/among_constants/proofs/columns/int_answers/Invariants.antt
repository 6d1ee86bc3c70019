-- What is said of the numbers so far.
use Rattle.std.proofs.Common.{◌≡◌, map, take}
use Rattle.sub_types.specs.Nullable.{bool_value, int_value}
use Rattle.value_sets.specs.Sets.{answer_by, has}
use Rattle.among_constants.proofs.columns.int_answers.Given as goal

abbrev pub invariant-loop-i : goal.invariant-loop-i
invariant-loop-i l = map bool_value l.built ≡ map (answer_by (has l.set)) (map int_value (take l.i l.numbers))
