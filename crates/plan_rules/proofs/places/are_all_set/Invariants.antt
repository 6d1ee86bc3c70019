use Rattle.std.proofs.Common.{◌≡◌, true, false, get_or}
use Rattle.std.specs.List.{list_all, range_with_len}
use Rattle.plan_rules.proofs.places.are_all_set.Given as goal

-- the first so many are set
abbrev pub invariant-loop-place : goal.invariant-loop-place
invariant-loop-place l = list_all (λ k. get_or l.marks k false) (range_with_len 0 l.place) ≡ true
