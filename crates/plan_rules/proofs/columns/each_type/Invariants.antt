use Rattle.std.proofs.Common.{◌≡◌, Ok, map, take}
use Rattle.sub_types.specs.ResultSteps.{collect}
use Rattle.plan_verdict.specs.Types.{type_in}
use Rattle.plan_rules.proofs.columns.each_type.Given as goal

-- the first so many types
abbrev pub invariant-loop-one : goal.invariant-loop-one
invariant-loop-one l = collect (map type_in (take l.one-index l.raw)) ≡ Ok l.types
