use Rattle.std.proofs.Common.{◌≡◌, drop, map}
use Rattle.plan_denote.specs.Sets.{first_fault}
use Rattle.row_steps.specs.Seen.{seen}
use Rattle.row_sorts.proofs.sets.first_fault.Given as goal

-- what is left answers as all do
abbrev pub invariant-loop-input : goal.invariant-loop-input
invariant-loop-input l = first_fault (map seen (drop l.input-index l.inputs)) ≡ first_fault (map seen l.fn.inputs)
