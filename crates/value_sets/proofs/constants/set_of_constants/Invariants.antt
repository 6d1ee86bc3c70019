use Rattle.std.proofs.Common.{take}
use Rattle.value_sets.specs.Sets.{IsSetOf}
use Rattle.value_sets.proofs.constants.set_of_constants.Given as goal

-- the set of the options so far
abbrev pub invariant-loop-option : goal.invariant-loop-option
invariant-loop-option l = IsSetOf l.set (take l.option-index l.options)
