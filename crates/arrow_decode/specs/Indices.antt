-- The indices of a column under a dictionary.
use Rattle.std.specs.Prelude.{ℕ, ◌*◌, ℤ, pos, List, map, Bool, true, false, nat_lt, Option, Some, None, drop, ◌==◌, if◌then◌else◌}
use Rattle.std.specs.Int.{w8, w16, w32, w64, cast_signed}
use Rattle.std.specs.List.{range_with_len}
use Rattle.byteorder.specs.Endian.{little_number}
use Rattle.sub_types.specs.Optional.{optional}
use Rattle.sub_types.specs.OptionSteps.{◌>>=◌, when}
use Rattle.arrow_meta.specs.Natural.{natural}

-- a signed number of some bytes
abbrev pub signed_index : ℕ → List ℕ → ℤ
signed_index size bytes =
    if size == 1 then cast_signed w8 (little_number 1 bytes)
    else if size == 2 then cast_signed w16 (little_number 2 bytes)
    else if size == 4 then cast_signed w32 (little_number 4 bytes)
    else cast_signed w64 (little_number 8 bytes)

-- the index at a place, with or without a sign
abbrev pub index_number : ℕ → Bool → List ℕ → ℕ → ℤ
index_number size true buffer i = signed_index size (drop (size * i) buffer)
index_number size false buffer i = pos (little_number size (drop (size * i) buffer))

-- the indices of so many values
abbrev pub optional_indices : ℕ → Bool → ℕ → List Bool → List ℕ → List (Option ℤ)
optional_indices size signed count valid buffer = optional (map (index_number size signed buffer) (range_with_len 0 count)) valid

-- the place that an index names among so many values, which has to be one of them; a null names the one behind them
abbrev pub place_among : ℕ → Option ℤ → Option ℕ
place_among values None = Some values
place_among values (Some index) = natural index >>= λ place. when (nat_lt place values) (Some place)
