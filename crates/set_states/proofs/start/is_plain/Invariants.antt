use Rattle.std.proofs.Common.{◌≡◌, false, take}
use Rattle.std.specs.List.{list_any}
use Rattle.plan_typed.specs.declared.rel.SetMeasure.{SetMeasure}
use Rattle.set_states.proofs.start.is_plain.Given as goal

-- none so far is over distinct values
abbrev pub invariant-loop-one : goal.invariant-loop-one
invariant-loop-one l = list_any (λ (one : SetMeasure). one.distinct) (take l.one-index l.measures) ≡ false
