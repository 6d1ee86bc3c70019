-- Sorts (Substrait `SortRel`).
use Rattle.std.specs.Prelude.{ℕ, List, [], ◌∷◌, Bool, true, false, Result, Ok, map, drop, slice_index_or, if◌then◌else◌}
use Rattle.std.specs.declared.cmp.Ordering.{Ordering}
use Rattle.std.specs.declared.cmp.Ordering.TheVariants.{Equal}
use Rattle.std.specs.List.Sorted.{IsSorted, IsStable}
use Rattle.std.specs.Ordering.{is_gt, bool_cmp, on, then_cmp, flip_args}
use Rattle.sub_types.specs.declared.fault.FaultKind.{FaultKind}
use Rattle.sub_types.specs.declared.value.Value.{Value}
use Rattle.sub_types.specs.declared.value.Value.TheVariants as values
use Rattle.sub_types.specs.Stream.{Stream, rows_alone}
use Rattle.plan_denote.specs.Rows.{Row, Formula, ◌>>=◌, values_at, each_row, from_all}
use Rattle.plan_denote.specs.Computed.{is_null}
use Rattle.plan_denote.specs.Order.{value_cmp}

-- how the values of a key are ordered
pub record Direction : Type 0 where
  pub descending : Bool
  pub nulls_first : Bool

-- nulls before all else, or behind it
abbrev pub null_cmp : Bool → Value → Value → Ordering
null_cmp true = on is_null (flip_args bool_cmp)
null_cmp false = on is_null bool_cmp

-- by size: the lesser value first, or, where they descend, the greater
abbrev pub sized_cmp : Bool → Value → Value → Ordering
sized_cmp true = flip_args value_cmp
sized_cmp false = value_cmp

abbrev pub directed_cmp : Direction → Value → Value → Ordering
directed_cmp direction = then_cmp (null_cmp direction.nulls_first) (sized_cmp direction.descending)

-- the first of a row's keys
abbrev pub first_key : List Value → Value
first_key key = slice_index_or key 0 values.Null

-- two rows by their keys: the first key in which they differ decides
abbrev pub key_cmp : List Direction → List Value → List Value → Ordering
key_cmp [] = λ _ _. Equal
key_cmp (direction ∷ directions) = then_cmp (on first_key (directed_cmp direction)) (on (drop 1) (key_cmp directions))

-- the values of a row's keys, and the row
abbrev pub Keyed : Type 0
Keyed = List Value × Row

abbrev pub keyed : List Formula → Row → Result (List Keyed) FaultKind
keyed keys row = do
  key ← values_at keys row
  Ok ((key, row) ∷ [])

-- a list of the same items in order, in which those that the order doesn't tell apart stand as they stood
pub record IsArrangement {A : Type 0} (cmp : A → A → Ordering) (items ordered : List A) : Type 0 where
  pub sorted : IsSorted cmp ordered
  pub stable : IsStable cmp items ordered

-- an item put before the first that it isn't greater than
abbrev pub placed : {A : Type 0} → (A → A → Ordering) → A → List A → List A
placed cmp x [] = x ∷ []
placed cmp x (y ∷ ys) = if is_gt (cmp x y) then y ∷ placed cmp x ys else x ∷ y ∷ ys

-- the items in order; of two that are equal, the first stays the first. This is the one list that is an arrangement of them.
abbrev pub arranged : {A : Type 0} → (A → A → Ordering) → List A → List A
arranged cmp [] = []
arranged cmp (x ∷ xs) = placed cmp x (arranged cmp xs)

-- the rows in order of their keys
unfoldable pub sorted_rows : List Direction → List Keyed → List Row
sorted_rows directions rows = map (λ one. one.1) (arranged (on (λ (one : Keyed). one.0) (key_cmp directions)) rows)

-- the keys of all rows, row by row and from left to right, and then the rows in order
unfoldable pub sorted : ℕ → List Formula → List Direction → Stream Row → Stream Row
sorted number keys directions input = from_all (λ rows. rows_alone (sorted_rows directions rows)) (each_row number (keyed keys) input)
