use Rattle.std.proofs.Common.{◌≡◌, Ok, map, take}
use Rattle.std.specs.Option.{ok_or}
use Rattle.sub_types.specs.ResultSteps.{collect}
use Rattle.plan_verdict.specs.declared.rule.Rule.TheVariants as rules
use Rattle.plan_verdict.specs.Columns.{place_in}
use Rattle.plan_rules.proofs.columns.each_place.Given as goal

-- the first so many places
abbrev pub invariant-loop-field : goal.invariant-loop-field
invariant-loop-field l = collect (map (λ field. ok_or (place_in l.count field) rules.BadMapping) (take l.field-index l.mapping)) ≡ Ok l.places
