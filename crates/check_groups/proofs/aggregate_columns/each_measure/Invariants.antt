use Rattle.std.proofs.Common.{◌≡◌, ◌++◌, map}
use Rattle.std.specs.Vec.Iter.{into_iter_items}
use Rattle.plan_typed.specs.declared.rel.SetMeasure.{SetMeasure}
use Rattle.check_groups.proofs.aggregate_columns.each_measure.Given as goal

-- with those of what is left they are those of all
abbrev pub invariant-loop-one : goal.invariant-loop-one
invariant-loop-one l = l.alone ++ map (λ (one : SetMeasure). one.measure) (into_iter_items l.one-iterator) ≡ map (λ (one : SetMeasure). one.measure) l.fn.measures
