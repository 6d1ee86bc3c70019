-- The places of groups by the keys of their expressions.
use Rattle.std.specs.Prelude.{◌≡◌, ℕ, ℤ, ◌%◌, ◌<◌, List, Vec, Bool, true, false, ◌&&◌, not, cond, nat_eq, max, length, Option, Some, None, is_some, position, get_or, slice_set}
use Rattle.std.specs.BTreeMap.{get_by, insert_entry}
use Rattle.std.specs.Cmp.Lexicographic.{slice_cmp}
use Rattle.std.specs.Ordering.{int_cmp, is_eq}
use Rattle.std.specs.declared.alloc.Global.{Global}
use Rattle.std.specs.declared.cmp.Ordering.{Ordering}
use Rattle.plan_verdict.specs.declared.groups.Group.{Group}
use Rattle.plan_verdict.specs.Aggregates.{is_same_group}
use Rattle.plan_keys.specs.Digests.{digest}
use Rattle.plan_keys.specs.Keys.{expr_key}
use Rattle.plan_keys.specs.declared.first_places.FirstPlaces.{FirstPlaces}
use Rattle.plan_keys.specs.declared.first_places.Found.{Found}
use Rattle.plan_keys.specs.declared.first_places.Found.TheVariants.{At, New}
use Rattle.plan_keys.specs.declared.first_places.Spot.{Spot}
use Rattle.plan_keys.specs.declared.first_places.Spot.TheVariants.{Nowhere, Slot, ByKey}

-- the slot of a key among so many
abbrev pub slot_in : ℕ → List ℤ → ℕ
slot_in slots key = digest key % max slots 1

-- two keys are one
abbrev pub is_key : List ℤ → List ℤ → Bool
is_key key other = is_eq (slice_cmp int_cmp key other)

-- a group without a subquery whose expression has the key
abbrev pub has_key : List ℤ → Group → Bool
has_key key group = not group.holds_subquery && is_key key (expr_key group.expr)

-- a group without a subquery whose expression's key has the slot among so many
abbrev pub has_slot : ℕ → ℕ → Group → Bool
has_slot slots slot group = not group.holds_subquery && nat_eq (slot_in slots (expr_key group.expr)) slot

-- how many slots there are
abbrev pub slot_count : FirstPlaces → ℕ
slot_count places = length places.slots.items

-- what is kept in a slot
abbrev pub first_at : FirstPlaces → ℕ → Option ℕ
first_at places slot = get_or places.slots.items slot None

-- what is kept under a key
abbrev pub later_at : FirstPlaces → List ℤ → Option ℕ
later_at places key = get_by (λ kept. slice_cmp int_cmp key kept.items) places.by_key

-- the first of two that is there
abbrev pub or_else : {X : Type 0} → Option X → Option X → Option X
or_else (Some x) other = Some x
or_else None other = other

-- a place that is not the other one
abbrev pub unless_at : Option ℕ → Option ℕ → Option ℕ
unless_at None other = None
unless_at (Some place) None = Some place
unless_at (Some place) (Some other) = cond (nat_eq other place) None (Some place)

-- each slot keeps the first place of a group with it, and under each key its first place is kept, where that is not the first of its slot
pub record IsIndex (groups : List Group) (places : FirstPlaces) : Type 0 where
  pub firsts : (slot : ℕ) → first_at places slot ≡ position (has_slot (slot_count places) slot) groups
  pub laters : (key : List ℤ) → later_at places key ≡ unless_at (position (has_key key) groups) (position (has_slot (slot_count places) (slot_in (slot_count places) key)) groups)

-- a spot that a group's first place may be kept at
abbrev pub IsSpotOf : FirstPlaces → Spot → Type 0
IsSpotOf places (Slot slot) = slot < slot_count places
IsSpotOf places _ = Unit {0}

-- where the first place of a group's key is to be kept: in its slot, where that is empty, or else by the key
abbrev pub IsSpot : FirstPlaces → Group → Spot → Type 0
IsSpot places group Nowhere = group.holds_subquery ≡ true
IsSpot places group (Slot slot) = (group.holds_subquery ≡ false) × (slot ≡ slot_in (slot_count places) (expr_key group.expr)) × (first_at places slot ≡ None)
IsSpot places group (ByKey key) =
    (group.holds_subquery ≡ false) × (key.items ≡ expr_key group.expr) × (is_some (first_at places (slot_in (slot_count places) (expr_key group.expr))) ≡ true)

-- what is found of a group: the place of the first equal one, or where its own is to be kept
abbrev pub IsFound : List Group → FirstPlaces → Group → Found → Type 0
IsFound groups places group (At place) = position (is_same_group group) groups ≡ Some place
IsFound groups places group (New spot) = (position (is_same_group group) groups ≡ None) × IsSpot places group spot

-- the place of a key is kept too, in its slot or, where that has a place, under the key
pub record Keeps (before after : FirstPlaces) (key : List ℤ) (place : ℕ) : Type 0 where
  pub slots : slot_count after ≡ slot_count before
  pub firsts : (slot : ℕ) → first_at after slot ≡ or_else (first_at before slot) (cond (nat_eq (slot_in (slot_count before) key) slot) (Some place) None)
  pub laters : (other : List ℤ) → later_at after other ≡ cond (is_some (first_at before (slot_in (slot_count before) key)) && is_key other key) (Some place) (later_at before other)

-- nothing more is kept
pub record KeepsAll (before after : FirstPlaces) : Type 0 where
  pub slots : after.slots.items ≡ before.slots.items
  pub laters : after.by_key.entries ≡ before.by_key.entries

-- the order of keys
abbrev pub vec_cmp : Vec ℤ Global → Vec ℤ Global → Ordering
vec_cmp a b = slice_cmp int_cmp a.items b.items

-- a place is kept at a spot
abbrev pub KeepsAt : FirstPlaces → FirstPlaces → ℕ → Spot → Type 0
KeepsAt before after place Nowhere = KeepsAll before after
KeepsAt before after place (Slot slot) = (after.slots.items ≡ slice_set before.slots.items slot (Some place)) × (after.by_key.entries ≡ before.by_key.entries)
KeepsAt before after place (ByKey key) = (after.slots.items ≡ before.slots.items) × (after.by_key.entries ≡ insert_entry vec_cmp before.by_key.entries key place)
