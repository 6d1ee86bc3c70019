use Rattle.std.proofs.Common.{◌≡◌, ◌++◌, map, take}
use Rattle.plan_typed.specs.declared.rel.SetMeasure.{SetMeasure}
use Rattle.pipe_ends.proofs.types.add_set_measures.Given as goal

-- the types of the first so many
abbrev pub invariant-loop-one : goal.invariant-loop-one
invariant-loop-one l = l.given.items ≡ l.initial.given.items ++ map (λ (one : SetMeasure). one.measure.ty) (take l.one-index l.measures)
