-- The buffers of a column of numbers (Arrow columnar format, fixed-size primitive layout).
use Rattle.std.specs.Prelude.{◌≡◌, ℕ, ◌<◌, List, Bool, false, length, slice_index_or}
use Rattle.sub_types.specs.Optional.{optional}
use Rattle.sub_types.specs.Slots.{slots}

-- as many bits as slots, and zero in each slot that isn't valid
pub record IsColumn {T : Type 0} (zero : T) (values : List T) (valid : List Bool) : Type 0 where
  pub same_length : length values ≡ length valid
  pub zeroed : slots zero (optional values valid) ≡ values

-- the buffer shows the same values as before, and below a place its nulls are zero
pub record IsClearedBelow {T : Type 0} (zero : T) (old new : List T) (valid : List Bool) (i : ℕ) : Type 0 where
  pub same_length : length new ≡ length valid
  pub same_column : optional new valid ≡ optional old valid
  pub cleared : (k : ℕ) → k < i → slice_index_or valid k false ≡ false → slice_index_or new k zero ≡ zero
