-- Truth values packed eight to a byte, the least bit first (Arrow columnar format, validity bitmaps).
use Rattle.std.specs.Prelude.{ℕ, ◌+◌, ◌*◌, ◌/◌, ◌%◌, ◌<◌, ◌≤◌, ◌==◌, List, Bool, length, map, slice_index}
use Rattle.std.specs.Int.{bit_at}
use Rattle.std.specs.List.{range_with_len}

-- the bit at a place
abbrev pub bit_of : List ℕ → ℕ → Bool
bit_of bytes i = bit_at (slice_index bytes (i / 8)) (i % 8) == 1

-- the first so many bits
abbrev pub bits_of : ℕ → List ℕ → List Bool
bits_of len bytes = map (bit_of bytes) (range_with_len 0 len)

-- the bytes are just those that so many bits need
pub record IsPacked (len : ℕ) (bytes : List ℕ) : Type 0 where
  pub enough : len ≤ 8 * length bytes
  pub no_more : 8 * length bytes < len + 8
