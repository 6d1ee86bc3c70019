use Rattle.std.proofs.Common.{◌≡◌, Ok, map, take}
use Rattle.sub_types.specs.ResultSteps.{collect}
use Rattle.plan_verdict.specs.Reads.{item_in}
use Rattle.plan_rules.proofs.sources.each_path.Given as goal

-- the paths of the first so many items
abbrev pub invariant-loop-item : goal.invariant-loop-item
invariant-loop-item l = collect (map item_in (take l.item-index l.items)) ≡ Ok l.paths
