use Rattle.std.proofs.Common.{◌≡◌, ◌++◌, map, take}
use Rattle.plan_typed.specs.declared.rel.SetMeasure.{SetMeasure}
use Rattle.check_groups.proofs.aggregate_columns.add_types.Given as goal

-- the types of the first so many stand behind the columns that were there
abbrev pub invariant-loop-one : goal.invariant-loop-one
invariant-loop-one l = l.columns ≡ l.initial.columns ++ map (λ (one : SetMeasure). one.measure.ty) (take l.one-index l.measures)
