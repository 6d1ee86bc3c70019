-- What a reader of records gives, without references.
use Rattle.std.specs.Prelude.{◌≡◌, ◌≢◌, ℕ, ◌+◌, ◌-◌, ◌≤◌, List, [], ◌∷◌, true, false, length, Option, Some, None, Result, Ok, Err, drop}
use Rattle.pb_wire.specs.declared.record.Payload.{Payload}
use Rattle.pb_wire.specs.declared.record.Payload.TheVariants as payloads
use Rattle.pb_wire.specs.declared.record.Record.{Record}
use Rattle.pb_wire.specs.Payloads.{Field, fields_of, is_whole}
use Rattle.pb_wire.specs.Records.{Content, Varint, Eight, Bytes, Four, Entry, Scan, stands, scan_from, behind_record}

abbrev pub content_of : Payload → Content
content_of (payloads.Varint value) = Varint value
content_of (payloads.Eight value) = Eight value
content_of (payloads.Bytes bytes) = Bytes bytes.now
content_of (payloads.Four value) = Four value

-- a record that takes so many bytes
abbrev pub entry_of : Record → ℕ → Entry
entry_of found size = record { number = found.number; content = content_of found.payload; size = size }

-- where a reader has come to, and the bytes from there on
pub record Rest : Type 0 where
  pub place : ℕ
  pub bytes : List ℕ

-- the records that are left
unfoldable pub scan_of : Rest → Scan
scan_of rest = scan_from rest.place rest.bytes 0

-- Nothing is given exactly at the end; a place where no record stands there, and then the reader stays; else the record
-- that stands there, and the reader goes behind it.
abbrev pub IsNext : Rest → Rest → Option (Result Record ℕ) → Type 0
IsNext old new None = (old.bytes ≡ []) × (new ≡ old)
IsNext old new (Some (Err place)) = (place ≡ old.place) × (old.bytes ≢ []) × (stands old.bytes ≡ None) × (new ≡ old)
IsNext old new (Some (Ok found)) =
    (found.place ≡ old.place) × ((size : ℕ) × (stands old.bytes ≡ Some (entry_of found size)) × (new ≡ record { place = old.place + size; bytes = drop size old.bytes }))

-- what was given is the first of the records that were left
abbrev pub IsFirst : Rest → Rest → Option (Result Record ℕ) → Type 0
IsFirst old new None = scan_of old ≡ record { records = []; broken = None }
IsFirst old new (Some (Err place)) = scan_of old ≡ record { records = []; broken = Some place }
IsFirst old new (Some (Ok found)) = (size : ℕ) × (scan_of old ≡ behind_record found.place (entry_of found size) (scan_of new))

-- the record is the first of those that were left, and takes the bytes up to the place that was come to
pub record IsBehind (found : Record) (old new : Rest) : Type 0 where
  pub before : found.place ≤ new.place
  pub first : scan_of old ≡ behind_record found.place (entry_of found (new.place - found.place)) (scan_of new)

-- a record without its place
abbrev pub field_seen : Record → Field
field_seen found = record { number = found.number; content = content_of found.payload }

-- what was given is the first of the records that were left, without their places
abbrev pub IsFirstField : Rest → Rest → Option (Result Record ℕ) → Type 0
IsFirstField old new None = (fields_of old.bytes ≡ []) × (is_whole old.bytes ≡ true)
IsFirstField old new (Some (Err place)) = (fields_of old.bytes ≡ []) × (is_whole old.bytes ≡ false)
IsFirstField old new (Some (Ok found)) = (fields_of old.bytes ≡ field_seen found ∷ fields_of new.bytes) × (is_whole old.bytes ≡ is_whole new.bytes)

-- how many bytes of its record a payload is
abbrev pub block_len : Payload → ℕ
block_len (payloads.Varint value) = 0
block_len (payloads.Eight value) = 0
block_len (payloads.Bytes bytes) = length bytes.now
block_len (payloads.Four value) = 0
