use Rattle.std.proofs.Common.{◌≡◌, map, take}
use Rattle.plan_raw.specs.declared.aggregate.Grouping.{out-Grouping}
use Rattle.check_groups.proofs.group_places.references_of.Given as goal

-- the references of the first so many
abbrev pub invariant-loop-grouping : goal.invariant-loop-grouping
invariant-loop-grouping l = l.sets ≡ map (λ grouping. (out-Grouping grouping).expression_references) (take l.grouping-index l.groupings)
