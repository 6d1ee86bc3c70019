-- The records of a message (Protocol Buffers encoding, "Message Structure"), without groups.
use Rattle.std.specs.Prelude.{◌≡◌, ◌<◌, ℕ, zero, suc, ◌+◌, ◌-◌, ◌/◌, ◌%◌, ◌^◌, ◌==◌, ◌&&◌, List, [], ◌∷◌, Option, Some, None, if◌then◌else◌, nat_lt, nat_le, length, take, drop}
use Rattle.std.specs.Option.{option_map, option_and_then}
use Rattle.byteorder.specs.Endian.{little_number}
use Rattle.pb_wire.specs.Varint.{varint_of}

-- what a record holds, by its wire type
pub data Content : Type 0 where
  Varint : ℕ → Content
  Eight : ℕ → Content
  Bytes : List ℕ → Content
  Four : ℕ → Content

-- a record without its place: the field's number, what it holds, and how many bytes it takes
pub record Entry : Type 0 where
  pub number : ℕ
  pub content : Content
  pub size : ℕ

-- a payload of a fixed number of bytes, the least first
abbrev pub fixed : ℕ → (ℕ → Content) → List ℕ → Option (Content × ℕ)
fixed count content bytes = if nat_le count (length bytes) then Some (content (little_number count bytes), count) else None

-- a length and that many bytes
abbrev pub block_of : List ℕ → Option (Content × ℕ)
block_of bytes = option_and_then (λ len. if nat_le (len.1 + len.0) (length bytes) then Some (Bytes (take len.0 (drop len.1 bytes)), len.1 + len.0) else None) (varint_of bytes)

-- the payload that begins the bytes, and its length, by the wire type
abbrev pub payload_of : ℕ → List ℕ → Option (Content × ℕ)
payload_of wire bytes =
    if wire == 0 then option_map (λ value. (Varint value.0, value.1)) (varint_of bytes)
    else if wire == 1 then fixed 8 Eight bytes
    else if wire == 2 then block_of bytes
    else if wire == 5 then fixed 4 Four bytes
    else None

-- The record that begins the bytes: a key below 2^32, the field's number times 8 plus the wire type, the number not 0, and
-- its payload.
unfoldable pub stands : List ℕ → Option Entry
stands bytes = option_and_then (λ key.
    if nat_lt key.0 (2 ^ 32) && nat_le 8 key.0
    then option_map (λ payload. record { number = key.0 / 8; content = payload.0; size = key.1 + payload.1 }) (payload_of (key.0 % 8) (drop key.1 bytes))
    else None) (varint_of bytes)

-- the record that begins at a place
abbrev pub record_at : List ℕ → ℕ → Option Entry
record_at bytes place = stands (drop place bytes)

-- a record and the place of its key
pub record Placed : Type 0 where
  pub place : ℕ
  pub entry : Entry

-- the records one after the other, and where they don't fill the bytes the place at which none stands
pub record Scan : Type 0 where
  pub records : List Placed
  pub broken : Option ℕ

-- a record before the others
abbrev pub behind_record : ℕ → Entry → Scan → Scan
behind_record place entry scan = record { records = record { place = place; entry = entry } ∷ scan.records; broken = scan.broken }

-- the records from a place on, where so many bytes still belong to the record before it
abbrev pub scan_from : ℕ → List ℕ → ℕ → Scan
scan_from place [] inside = record { records = []; broken = None }
scan_from place (byte ∷ bytes) (suc inside) = scan_from (place + 1) bytes inside
scan_from place (byte ∷ bytes) zero = elim (stands (byte ∷ bytes)) [
  | None ↦ record { records = []; broken = Some place }
  | Some entry ↦ behind_record place entry (scan_from (place + 1) bytes (entry.size - 1))
]

-- the records of a message
unfoldable pub records_of : List ℕ → Scan
records_of bytes = scan_from 0 bytes 0

-- From a place on these records stand one after the other, and fill the bytes, or end at a place where none stands.
abbrev pub IsScanFrom : List ℕ → ℕ → List Placed → Option ℕ → Type 0
IsScanFrom bytes place [] None = place ≡ length bytes
IsScanFrom bytes place [] (Some broken) = (broken ≡ place) × (place < length bytes) × (record_at bytes place ≡ None)
IsScanFrom bytes place (placed ∷ records) broken =
    (placed.place ≡ place) × (record_at bytes place ≡ Some placed.entry) × IsScanFrom bytes (place + placed.entry.size) records broken

-- the records of a message, from its first byte on
abbrev pub IsScan : List ℕ → Scan → Type 0
IsScan bytes scan = IsScanFrom bytes 0 scan.records scan.broken
