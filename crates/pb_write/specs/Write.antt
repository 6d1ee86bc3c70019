-- Varints, records and messages as they are written (Protocol Buffers encoding, "Base 128 Varints", "Message Structure").
use Rattle.std.specs.Prelude.{ℕ, zero, suc, ◌+◌, ◌*◌, ◌/◌, ◌%◌, ◌^◌, ◌<◌, ◌≤◌, List, [], ◌∷◌, ◌++◌, if◌then◌else◌, nat_lt, length}
use Rattle.std.specs.List.{All, flat_map}
use Rattle.pb_wire.specs.Records.{Varint, Eight, Bytes, Four}
use Rattle.pb_wire.specs.Payloads.{Field}

-- a varint of at most so many bytes: seven bits a byte, the least first, and the top bit on all but the last
abbrev pub varint_bytes_within : ℕ → ℕ → List ℕ
varint_bytes_within zero value = []
varint_bytes_within (suc zero) value = value ∷ []
varint_bytes_within (suc (suc left)) value = if nat_lt value 128 then value ∷ [] else (value % 128 + 128) ∷ varint_bytes_within (suc left) (value / 128)

-- the shortest varint of a number of 64 bits
unfoldable pub varint_bytes : ℕ → List ℕ
varint_bytes value = varint_bytes_within 10 value

-- a record's key: the field's number times 8 plus the wire type
abbrev pub key_bytes : ℕ → ℕ → List ℕ
key_bytes number wire = varint_bytes (number * 8 + wire)

-- a record: its key, and its payload. Payloads of eight or four bytes aren't written.
unfoldable pub record_bytes : Field → List ℕ
record_bytes field = elim field.content [
  | Varint value ↦ key_bytes field.number 0 ++ varint_bytes value
  | Eight value ↦ []
  | Bytes bytes ↦ key_bytes field.number 2 ++ (varint_bytes (length bytes) ++ bytes)
  | Four value ↦ []
]

-- a message: its records one after the other
unfoldable pub message_bytes : List Field → List ℕ
message_bytes fields = flat_map record_bytes fields

-- the varints of a packed payload, one after the other
unfoldable pub packed_bytes : List ℕ → List ℕ
packed_bytes numbers = flat_map varint_bytes numbers

-- a number of 64 bits
abbrev pub IsLong : ℕ → Type 0
IsLong value = value < 2 ^ 64

-- what can be written of a record: a varint or a block of less than 2^64 bytes
abbrev pub HasPayload : Field → Type 0
HasPayload field = elim field.content [
  | Varint value ↦ IsLong value
  | Eight value ↦ ⊥
  | Bytes bytes ↦ IsLong (length bytes)
  | Four value ↦ ⊥
]

-- a record that can be written; the number of its field has 29 bits and isn't 0
pub record IsWritable (field : Field) : Type 0 where
  pub some : 1 ≤ field.number
  pub within : field.number < 2 ^ 29
  pub payload : HasPayload field
