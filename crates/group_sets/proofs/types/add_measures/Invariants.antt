use Rattle.std.proofs.Common.{◌≡◌, ◌++◌, map, take}
use Rattle.plan_typed.specs.declared.rel.SetMeasure.{SetMeasure}
use Rattle.group_sets.proofs.types.add_measures.Given as goal

-- the types of the first so many
abbrev pub invariant-loop-one : goal.invariant-loop-one
invariant-loop-one l = l.types.items ≡ l.initial.types.items ++ map (λ (one : SetMeasure). one.measure.ty) (take l.one-index l.measures)
