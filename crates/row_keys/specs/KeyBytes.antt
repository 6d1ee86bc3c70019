-- The bytes of a key. Each value says by its first byte what it is, and, where it is a text, by the next eight how long it is, so
-- that the values of a key can be told apart.
use Rattle.std.specs.Prelude.{ℕ, ◌<◌, ◌^◌, List, [], ◌∷◌, ◌++◌, true, false, length, FitsSigned}
use Rattle.std.specs.List.{flat_map}
use Rattle.std.specs.Int.{w64, w128, cast_unsigned}
use Rattle.byteorder.specs.Endian.{little_bytes}
use Rattle.sub_types.specs.declared.value.Value.{Value}
use Rattle.sub_types.specs.declared.value.Value.TheVariants as values

-- what a value is, and behind it the number, or the length and the bytes
abbrev pub value_bytes : Value → List ℕ
value_bytes values.Null = 0 ∷ []
value_bytes (values.Bool false) = 1 ∷ []
value_bytes (values.Bool true) = 2 ∷ []
value_bytes (values.Int n) = 3 ∷ little_bytes 8 (cast_unsigned w64 n)
value_bytes (values.Dec n) = 4 ∷ little_bytes 16 (cast_unsigned w128 n)
value_bytes (values.Bytes bytes) = 5 ∷ (little_bytes 8 (length bytes) ++ bytes)

-- the values one behind the other
abbrev pub bytes_of_key : List Value → List ℕ
bytes_of_key key = flat_map value_bytes key

-- the number, or the length, is one that so many bytes hold
abbrev pub IsHeld : Value → Type 0
IsHeld (values.Int n) = FitsSigned w64 n
IsHeld (values.Dec n) = FitsSigned w128 n
IsHeld (values.Bytes bytes) = length bytes < 2 ^ 64
IsHeld _ = Unit {0}
