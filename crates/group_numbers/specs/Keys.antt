-- The keys of groups, each once, in the order in which they first appear, and the numbers of the groups of rows.
use Rattle.std.specs.Prelude.{◌≡◌, ℕ, List, [], ◌∷◌, true, false, Some, map}
use Rattle.std.specs.List.{All, list_any, range_with_len, slice_get}
use Rattle.plan_denote.specs.Computed.{Row}
use Rattle.plan_denote.specs.Distinct.{is_same_row}
use Rattle.batch.specs.declared.batch.Batch.{Batch}
use Rattle.row_keys.specs.Keys.{key_of}
use Rattle.row_keys.specs.KeyBytes.{IsHeld, bytes_of_key}
use Rattle.group_keys.specs.Keys.{with_item, key_of_number}
use Rattle.group_numbers.specs.declared.keys.GroupKeys.{GroupKeys}

-- each key once
abbrev pub IsOnce : List Row → Type 0
IsOnce [] = Unit {0}
IsOnce (key ∷ keys) = (list_any (is_same_row key) keys ≡ false) × IsOnce keys

-- further keys one after the other
abbrev pub with_keys : List Row → List Row → List Row
with_keys keys [] = keys
with_keys keys (key ∷ more) = with_keys (with_item is_same_row keys key) more

-- the keys of a batch's rows
abbrev pub keys_at : List ℕ → Batch → List Row
keys_at columns batch = map (key_of columns batch) (range_with_len 0 batch.rows)

-- the rows with these keys have the groups of these numbers
abbrev pub AreAt : List Row → List ℕ → List Row → Type 0
AreAt keys numbers rows = map (slice_get keys) numbers ≡ map (λ row. Some row) rows

-- no other key has this one's bytes
pub record IsTold (key : Row) : Type 0 where
  pub held : All IsHeld key
  pub alone : (other : Row) → All IsHeld other → bytes_of_key key ≡ bytes_of_key other → key ≡ other

-- the bytes of the keys, none of which are another key's
pub record AreByBytes (keys : List Row) (stored : List (List ℕ)) : Type 0 where
  pub told : All IsTold keys
  pub bytes : stored ≡ map bytes_of_key keys

-- the keys are there once, and beside them the numbers that they are, or else their bytes
pub record IsKept (keys : GroupKeys) : Type 0 where
  pub once : IsOnce keys.rows
  pub whole : keys.by_number ≡ true → map key_of_number keys.whole.keys ≡ keys.rows
  pub bytes : keys.by_number ≡ false → AreByBytes keys.rows (map (λ k. k.items) keys.set.keys)
