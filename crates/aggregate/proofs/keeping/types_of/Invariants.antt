use Rattle.std.proofs.Common.{◌≡◌, ◌++◌, map, take}
use Rattle.plan_typed.specs.Types.{ty_of}
use Rattle.plan_typed.specs.declared.rel.TypedMeasure.{TypedMeasure}
use Rattle.aggregate.proofs.keeping.types_of.Given as goal

-- the types so far
abbrev pub invariant-loop-group : goal.invariant-loop-group
invariant-loop-group l = l.types.items ≡ map ty_of (take l.group-index l.spec.groups.items)

abbrev pub invariant-loop-measure : goal.invariant-loop-measure
invariant-loop-measure l = l.types.items ≡ map ty_of l.spec.groups.items ++ map (λ (measure : TypedMeasure). measure.ty) (take l.measure-index l.spec.measures.items)
