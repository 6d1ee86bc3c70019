-- The digests of keys: numbers that tell most keys apart.
use Rattle.std.specs.Prelude.{ℕ, ℤ, ◌+◌, ◌-◌, ◌*◌, ◌/◌, ◌%◌, ◌^◌, List, bit_and, bit_xor}
use Rattle.std.specs.Int.{cast_unsigned}
use Rattle.std.specs.List.{fold}
use mir.Syntax.{w128}

-- the digest of a key with one number more, at 128 bits
abbrev pub with_number : ℕ → ℤ → ℕ
with_number so_far number = (so_far * 0x9e37_79b9_7f4a_7c15_f39c_c060_5ced_c835 % 2 ^ 128 + cast_unsigned w128 number) % 2 ^ 128

-- the two halves of 128 bits as one number
abbrev pub joined : ℕ → ℕ
joined number = bit_xor (bit_and number (2 ^ 64 - 1)) (number / 2 ^ 64)

unfoldable pub digest : List ℤ → ℕ
digest key = joined (fold with_number 0 key)
