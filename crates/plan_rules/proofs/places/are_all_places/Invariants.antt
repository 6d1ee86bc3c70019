use Rattle.std.proofs.Common.{◌≡◌, true, take}
use Rattle.std.specs.List.{list_all}
use Rattle.plan_verdict.specs.Aggregates as spec
use Rattle.plan_rules.proofs.places.are_all_places.Given as goal

-- the first so many sets have places
abbrev pub invariant-loop-set : goal.invariant-loop-set
invariant-loop-set l = list_all (spec.are_places l.count) (take l.set-index l.sets) ≡ true
