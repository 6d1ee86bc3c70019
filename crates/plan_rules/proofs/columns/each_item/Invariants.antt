use Rattle.std.proofs.Common.{◌≡◌, Ok, map, take}
use Rattle.sub_types.specs.ResultSteps.{collect}
use Rattle.plan_verdict.specs.Columns.{mask_item}
use Rattle.plan_rules.proofs.columns.each_item.Given as goal

-- the places of the first so many items
abbrev pub invariant-loop-item : goal.invariant-loop-item
invariant-loop-item l = collect (map (mask_item l.count) (take l.item-index l.items)) ≡ Ok l.places
