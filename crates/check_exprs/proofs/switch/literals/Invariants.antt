use Rattle.std.proofs.Common.{◌≡◌, Ok, map, take}
use Rattle.sub_types.specs.ResultSteps.{collect}
use Rattle.plan_verdict.specs.Literals.{value_of_kind}
use Rattle.plan_verdict.specs.Verdict.{checked_arm}
use Rattle.check_exprs.proofs.switch.literals.Given as goal

-- the values of the first so many
abbrev pub invariant-loop-one : goal.invariant-loop-one
invariant-loop-one l = collect (map (λ one. value_of_kind l.kind (checked_arm l.terms one).literal) (take l.one-index l.ifs)) ≡ Ok l.values
