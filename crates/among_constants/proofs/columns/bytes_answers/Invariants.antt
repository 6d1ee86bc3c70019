-- What is said of the texts so far.
use Rattle.std.proofs.Common.{◌≡◌, map, take}
use Rattle.sub_types.specs.Nullable.{bool_value, bytes_value}
use Rattle.value_sets.specs.Sets.{answer_by, has}
use Rattle.among_constants.proofs.columns.bytes_answers.Given as goal

abbrev pub invariant-loop-i : goal.invariant-loop-i
invariant-loop-i l = map bool_value l.built ≡ map (answer_by (has l.set)) (map bytes_value (take l.i l.texts))
