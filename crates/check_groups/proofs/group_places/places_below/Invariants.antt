use Rattle.std.proofs.Common.{◌≡◌}
use Rattle.std.specs.List.{range_with_len}
use Rattle.check_groups.proofs.group_places.places_below.Given as goal

-- the first so many places
abbrev pub invariant-loop-place : goal.invariant-loop-place
invariant-loop-place l = l.places ≡ range_with_len 0 l.place
