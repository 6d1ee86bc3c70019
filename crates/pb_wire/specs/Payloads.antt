-- The payload rules of proto3, over the list of a message's records (Protocol Buffers encoding, "Optional and Repeated
-- Elements", "Last One Wins", "Oneofs").
use Rattle.std.specs.Prelude.{◌≡◌, ℕ, zero, suc, ◌+◌, ◌-◌, ◌%◌, ◌^◌, ℤ, List, [], ◌∷◌, Bool, false, pos, Option, Some, None, if◌then◌else◌, ◌==◌, ◌&&◌, not, map, filter, length, drop, unwrap_or, is_none}
use Rattle.std.specs.List.{filter_map, flat_map, concat, last_or, list_any}
use Rattle.std.specs.Option.{option_map, option_and_then, option_map_or}
use Rattle.std.specs.Int.{w32, w64, cast_signed}
use Rattle.pb_wire.specs.Varint.{varint_of}
use Rattle.pb_wire.specs.Records.{Content, Varint, Eight, Bytes, Four, Placed, records_of}

-- a record without its place
pub record Field : Type 0 where
  pub number : ℕ
  pub content : Content

abbrev pub field_of : Placed → Field
field_of placed = record { number = placed.entry.number; content = placed.entry.content }

-- the records of a message without their places
unfoldable pub fields_of : List ℕ → List Field
fields_of bytes = map field_of (records_of bytes).records

-- the records fill the bytes of a message
unfoldable pub is_whole : List ℕ → Bool
is_whole bytes = is_none (records_of bytes).broken

-- what a record gives a field of varints; one of another field or wire type gives nothing
abbrev pub varint_in : ℕ → Field → Option ℕ
varint_in number field = elim field.content [
  | Varint value ↦ if field.number == number then Some value else None
  | Eight value ↦ None
  | Bytes bytes ↦ None
  | Four value ↦ None
]

-- what a record gives a field of texts, bytes or messages
abbrev pub block_in : ℕ → Field → Option (List ℕ)
block_in number field = elim field.content [
  | Varint value ↦ None
  | Eight value ↦ None
  | Bytes bytes ↦ if field.number == number then Some bytes else None
  | Four value ↦ None
]

-- the payloads of a field of texts, bytes or messages, in order
abbrev pub blocks : ℕ → List Field → List (List ℕ)
blocks number fields = filter_map (block_in number) fields

-- a scalar takes the last payload of its field and wire type, or is absent
abbrev pub last_scalar : {A : Type 0} → (Field → Option A) → List Field → Option A
last_scalar payload fields = last_or None (filter_map payload fields)

-- the last varint, and the last text or bytes
abbrev pub last_varint : ℕ → List Field → Option ℕ
last_varint number fields = last_scalar (varint_in number) fields

abbrev pub last_block : ℕ → List Field → Option (List ℕ)
last_block number fields = last_scalar (block_in number) fields

-- a varint as uint32 or an enum, as int32, as int64 and as a truth value
abbrev pub as_uint32 : ℕ → ℕ
as_uint32 value = value % 2 ^ 32

abbrev pub as_int32 : ℕ → ℤ
as_int32 value = cast_signed w32 (value % 2 ^ 32)

abbrev pub as_int64 : ℕ → ℤ
as_int64 value = cast_signed w64 value

abbrev pub as_bool : ℕ → Bool
as_bool value = not (value == 0)

-- the varints of a packed payload from here on, where so many bytes still belong to the varint before
abbrev pub packed_from : List ℕ → ℕ → Option (List ℕ)
packed_from [] inside = Some []
packed_from (byte ∷ bytes) (suc inside) = packed_from bytes inside
packed_from (byte ∷ bytes) zero = option_and_then (λ found. option_map (λ rest. found.0 ∷ rest) (packed_from bytes (found.1 - 1))) (varint_of (byte ∷ bytes))

-- the varints that stand one after the other and fill a packed payload, or none where they don't fill it
unfoldable pub packed_numbers : List ℕ → Option (List ℕ)
packed_numbers bytes = packed_from bytes 0

-- the value and the length of the varint that begins at a place
abbrev pub varint_at : List ℕ → ℕ → Option (ℕ × ℕ)
varint_at bytes place = varint_of (drop place bytes)

-- from a place on varints of these values stand one after the other, and the last ends at the end of the bytes
abbrev pub AreNumbersFrom : List ℕ → ℕ → List ℕ → Type 0
AreNumbersFrom bytes place [] = place ≡ length bytes
AreNumbersFrom bytes place (number ∷ numbers) = (size : ℕ) × (varint_at bytes place ≡ Some (number, size)) × AreNumbersFrom bytes (place + size) numbers

-- the numbers of a packed payload, from its first byte on
abbrev pub AreNumbers : List ℕ → List ℕ → Type 0
AreNumbers bytes numbers = AreNumbersFrom bytes 0 numbers

-- what a record gives a field of repeated numbers, packed or not
abbrev pub numbers_in : ℕ → Field → List ℕ
numbers_in number field = elim field.content [
  | Varint value ↦ if field.number == number then value ∷ [] else []
  | Eight value ↦ []
  | Bytes bytes ↦ if field.number == number then unwrap_or (packed_numbers bytes) [] else []
  | Four value ↦ []
]

-- a repeated number is what each record gives, one after the other
abbrev pub repeated_numbers : ℕ → List Field → List ℕ
repeated_numbers number fields = flat_map (numbers_in number) fields

-- payloads one after the other, or absent where there is none
abbrev pub joined : List (List ℕ) → Option (List ℕ)
joined [] = None
joined (payload ∷ payloads) = Some (concat (payload ∷ payloads))

-- a singular message is absent where no record has it, else it is read from its payloads one after the other
abbrev pub merged_message : ℕ → List Field → Option (List ℕ)
merged_message number fields = joined (blocks number fields)

-- a oneof's winner: its number, and the records from which it is read
pub record Member : Type 0 where
  pub number : ℕ
  pub records : List Field

-- what stands behind the last record that passes the test, or all where none does
abbrev pub behind_last : (Field → Bool) → List Field → List Field
behind_last test [] = []
behind_last test (field ∷ fields) = if list_any test (field ∷ fields) then behind_last test fields else field ∷ fields

-- a record of a member with another number
abbrev pub is_other : (Field → Bool) → ℕ → Field → Bool
is_other is_member number field = is_member field && not (field.number == number)

-- the last record among its members decides a oneof; the winner is read from the records since the last of any other member
abbrev pub chosen_member : (Field → Bool) → List Field → Option Member
chosen_member is_member fields =
    option_map (λ last. record { number = last.number; records = behind_last (is_other is_member last.number) fields }) (last_or None (filter is_member fields))

-- A field's value where it isn't a member of a oneof: an absent number counts as 0, an absent truth value as false, absent
-- bytes as empty.
abbrev pub uint32_field : ℕ → List Field → ℕ
uint32_field number fields = option_map_or as_uint32 (last_varint number fields) 0

abbrev pub int32_field : ℕ → List Field → ℤ
int32_field number fields = option_map_or as_int32 (last_varint number fields) (pos 0)

abbrev pub int64_field : ℕ → List Field → ℤ
int64_field number fields = option_map_or as_int64 (last_varint number fields) (pos 0)

abbrev pub bool_field : ℕ → List Field → Bool
bool_field number fields = option_map_or as_bool (last_varint number fields) false

abbrev pub bytes_field : ℕ → List Field → List ℕ
bytes_field number fields = unwrap_or (last_block number fields) []

abbrev pub uint32_numbers : ℕ → List Field → List ℕ
uint32_numbers number fields = map as_uint32 (repeated_numbers number fields)

abbrev pub int32_numbers : ℕ → List Field → List ℤ
int32_numbers number fields = map as_int32 (repeated_numbers number fields)
