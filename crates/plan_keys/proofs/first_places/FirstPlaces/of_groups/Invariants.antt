use Rattle.std.proofs.Common.{◌<◌, length, take}
use Rattle.plan_keys.specs.Places.{IsIndex}
use Rattle.plan_keys.proofs.first_places.FirstPlaces.of_groups.Given as goal

-- the first so many groups are added
abbrev pub invariant-loop-place : goal.invariant-loop-place
invariant-loop-place l = record {
  index : IsIndex (take l.place l.groups) l.places;
  slots : 0 < length l.places.slots.items;
}
