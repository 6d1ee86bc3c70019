-- Base 128 varints (Protocol Buffers encoding, "Base 128 Varints").
use Rattle.std.specs.Prelude.{ℕ, zero, suc, ◌+◌, ◌-◌, ◌*◌, List, [], ◌∷◌, Option, Some, None, if◌then◌else◌, nat_lt}
use Rattle.std.specs.Option.{option_map}

-- a byte of seven bits before the rest: the value and the length of both
abbrev pub behind_byte : ℕ → ℕ × ℕ → ℕ × ℕ
behind_byte byte rest = (byte - 128 + 128 * rest.0, rest.1 + 1)

-- The value and the length of the varint that begins the bytes, where at most so many bytes are left to it: seven bits a
-- byte, the least first; the top bit stands on all but the last; and the last that may be left is at most 1.
abbrev pub varint_within : ℕ → List ℕ → Option (ℕ × ℕ)
varint_within zero bytes = None
varint_within (suc left) [] = None
varint_within (suc zero) (byte ∷ bytes) = if nat_lt byte 2 then Some (byte, 1) else None
varint_within (suc (suc left)) (byte ∷ bytes) =
    if nat_lt byte 128 then Some (byte, 1) else option_map (behind_byte byte) (varint_within (suc left) bytes)

-- at most ten bytes, since 64 bits need no more
unfoldable pub varint_of : List ℕ → Option (ℕ × ℕ)
varint_of bytes = varint_within 10 bytes
