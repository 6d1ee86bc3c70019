-- Offsets of 8 bytes where they are wide, and else of 4.
use Rattle.std.specs.Prelude.{ℕ, ◌+◌, ◌-◌, ◌*◌, ◌%◌, ◌^◌, List, [], ◌∷◌, map, Bool, true, false, ◌&&◌, nat_le, Option, Some, None, if◌then◌else◌, drop}
use Rattle.std.specs.Int.{w32, w64}
use Rattle.std.specs.List.{range_with_len}
use Rattle.byteorder.specs.Endian.{little_number}
use Rattle.sub_types.specs.OptionSteps.{when}
use Rattle.arrow_meta.specs.Values.{offsets_in}

-- the offsets of so many values
abbrev pub offsets_of : Bool → ℕ → List ℕ → Option (List ℕ)
offsets_of true count buffer = offsets_in w64 8 count buffer
offsets_of false count buffer = offsets_in w32 4 count buffer

-- how many bytes an offset has
abbrev pub offset_width : Bool → ℕ
offset_width true = 8
offset_width false = 4

-- the greatest of them
abbrev pub greatest_offset : Bool → ℕ
greatest_offset true = 2 ^ 63 - 1
greatest_offset false = 2 ^ 31 - 1

-- the offset at the front of a buffer, read without its sign
abbrev pub front_offset : Bool → List ℕ → ℕ
front_offset wide buffer = little_number (offset_width wide) buffer

-- so many offsets from a place on, read without their signs
abbrev pub raw_offsets : Bool → List ℕ → ℕ → ℕ → List ℕ
raw_offsets wide buffer start n = map (λ k. front_offset wide (drop (offset_width wide * k) buffer)) (range_with_len start n)

-- numbers behind the first, in the numbers of 64 bits
abbrev pub behind : ℕ → List ℕ → List ℕ
behind begin places = map (λ place. (place + (2 ^ 64 - begin)) % 2 ^ 64) places

-- from a number on none is below the one before it, and the last is at most so much
abbrev pub rises : ℕ → List ℕ → ℕ → Bool
rises start [] most = nat_le start most
rises start (end ∷ ends) most = nat_le start end && rises end ends most

-- ends, if they rise from 0 on
abbrev pub risen : ℕ → List ℕ → Option (List ℕ)
risen most ends = when (rises 0 ends most) (Some ends)

-- a text, if it is valid
abbrev pub value_from : List ℕ → Bool → Option (List ℕ)
value_from text is_valid = if is_valid then Some text else None
