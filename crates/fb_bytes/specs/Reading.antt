-- What bytes read as: tables, their fields, vectors and texts. Numbers are little-endian, an offset leads
-- forward from its own place, and all that is looked at must lie inside the bytes.
use Rattle.std.specs.Prelude.{◌≡◌, ℕ, ◌+◌, ◌*◌, ◌^◌, ◌<◌, ◌≤◌, ℤ, pos, negsuc, ◌-ℤ◌, List, length, take, drop, Option, Some, None, Result, Ok, Err, ◌==◌, ◌&&◌, nat_le, if◌then◌else◌}
use Rattle.std.specs.Borrow.{Bor}
use Rattle.std.specs.Int.{cast_signed, w32}
use Rattle.std.specs.Option.{option_map}
use Rattle.byteorder.specs.Endian.{little_number}
use Rattle.sub_types.specs.ResultSteps.{◌>>=◌}
use Rattle.fb_bytes.specs.declared.bad_buffer.BadBuffer.{BadBuffer}

-- the item that begins at this place isn't inside the bytes
abbrev pub bad : {A : Type 0} → ℤ → Result A BadBuffer
bad place = Err (record { place = place })

abbrev pub bad_at : ℕ → BadBuffer
bad_at place = record { place = pos place }

-- the number of so many bytes at a place
unfoldable pub number_at : List ℕ → ℕ → ℕ → Result ℕ BadBuffer
number_at bytes width place =
    if nat_le (place + width) (length bytes) then Ok (little_number width (drop place bytes)) else bad (pos place)

-- the place that the offset at a place leads to
unfoldable pub offset_at : List ℕ → ℕ → Result ℕ BadBuffer
offset_at bytes place = number_at bytes 4 place >>= λ offset. Ok (place + offset)

-- a table in the bytes: where it stands, and where its vtable does
pub record TableAt : Type 0 where
  pub bytes : List ℕ
  pub place : ℕ
  pub vtable : ℕ

-- the size in bytes that a vtable states first
abbrev pub vtable_size : List ℕ → ℕ → ℕ
vtable_size bytes vtable = little_number 2 (drop vtable bytes)

-- the size of the vtable at a place, which is inside the bytes and has at least 4 of them
unfoldable pub whole_vtable : List ℕ → ℕ → Option ℕ
whole_vtable bytes vtable =
    if nat_le 4 (vtable_size bytes vtable) && nat_le (vtable + vtable_size bytes vtable) (length bytes)
    then Some (vtable_size bytes vtable) else None

-- what is so of a table that was found
pub record IsInside (bytes : List ℕ) (place vtable size : ℕ) : Type 0 where
  pub small : length bytes < 2 ^ 31
  pub table : place + 4 ≤ length bytes
  pub stated : size ≡ vtable_size bytes vtable
  pub least : 4 ≤ size
  pub whole : vtable + size ≤ length bytes

-- the table at a place, if its vtable has a size
abbrev pub with_size : List ℕ → ℕ → ℕ → Option ℕ → Result TableAt BadBuffer
with_size bytes place vtable None = bad (pos vtable)
with_size bytes place vtable (Some size) = Ok (record { bytes = bytes; place = place; vtable = vtable })

-- the table at a place, whose vtable begins at a place that may be before the bytes; a vtable has at least 4 bytes
abbrev pub with_vtable : List ℕ → ℕ → ℤ → Result TableAt BadBuffer
with_vtable bytes place (pos vtable) = with_size bytes place vtable (whole_vtable bytes vtable)
with_vtable bytes place (negsuc before) = bad (negsuc before)

-- the table at a place, which begins with the signed distance back to its vtable
unfoldable pub table_at : List ℕ → ℕ → Result TableAt BadBuffer
table_at bytes place =
    number_at bytes 4 place >>= λ distance. with_vtable bytes place (pos place -ℤ cast_signed w32 distance)

-- the root table, to which the offset at 0 leads
unfoldable pub root_of : List ℕ → Result TableAt BadBuffer
root_of bytes = offset_at bytes 0 >>= table_at bytes

-- how far from the table's place the field of a slot stands, or 0 where the vtable has no whole entry for it
unfoldable pub entry_of : TableAt → ℕ → ℕ
entry_of t slot =
    if nat_le (6 + 2 * slot) (vtable_size t.bytes t.vtable) then little_number 2 (drop (t.vtable + 4 + 2 * slot) t.bytes) else 0

-- where the field of a slot stands; none where it is absent
unfoldable pub field_of : TableAt → ℕ → Option ℕ
field_of t slot = if entry_of t slot == 0 then None else Some (t.place + entry_of t slot)

-- none where the field is absent, and else what stands there
abbrev pub when_present : {A : Type 0} → Option ℕ → (ℕ → Result A BadBuffer) → Result (Option A) BadBuffer
when_present None read = Ok None
when_present (Some place) read = read place >>= λ x. Ok (Some x)

-- the number in a slot
unfoldable pub scalar_of : TableAt → ℕ → ℕ → Result (Option ℕ) BadBuffer
scalar_of t slot width = when_present (field_of t slot) (number_at t.bytes width)

-- the place that the offset in a slot leads to
unfoldable pub reference_of : TableAt → ℕ → Result (Option ℕ) BadBuffer
reference_of t slot = when_present (field_of t slot) (offset_at t.bytes)

-- the table that a slot leads to
unfoldable pub table_of : TableAt → ℕ → Result (Option TableAt) BadBuffer
table_of t slot = reference_of t slot >>= λ place. when_present place (table_at t.bytes)

-- a vector in the bytes: where its elements begin, how many there are, and how many bytes each has
pub record VectorAt : Type 0 where
  pub bytes : List ℕ
  pub start : ℕ
  pub count : ℕ
  pub width : ℕ

-- what is so of a vector that was found
pub record HasElementsInside (v : VectorAt) : Type 0 where
  pub small : length v.bytes < 2 ^ 31
  pub elements : v.start + v.width * v.count ≤ length v.bytes

-- the vector at a place, which begins with the count of its elements
unfoldable pub vector_at : List ℕ → ℕ → ℕ → Result VectorAt BadBuffer
vector_at bytes width place =
    number_at bytes 4 place >>= λ count.
    if nat_le (place + 4 + width * count) (length bytes)
    then Ok (record { bytes = bytes; start = place + 4; count = count; width = width }) else bad (pos place)

-- the vector that a slot leads to
unfoldable pub vector_of : TableAt → ℕ → ℕ → Result (Option VectorAt) BadBuffer
vector_of t slot width = reference_of t slot >>= λ place. when_present place (vector_at t.bytes width)

-- the bytes of an element
unfoldable pub item_of : VectorAt → ℕ → List ℕ
item_of v i = take v.width (drop (v.start + v.width * i) v.bytes)

-- the bytes of all elements, one after the other
unfoldable pub elements_of : VectorAt → List ℕ
elements_of v = take (v.width * v.count) (drop v.start v.bytes)

-- the table that an element leads to, which is an offset
unfoldable pub table_item : VectorAt → ℕ → Result TableAt BadBuffer
table_item v i = offset_at v.bytes (v.start + 4 * i) >>= table_at v.bytes

-- the text at a place, which is a vector of bytes
unfoldable pub text_at : List ℕ → ℕ → Result (List ℕ) BadBuffer
text_at bytes place = vector_at bytes 1 place >>= λ v. Ok (elements_of v)

-- the text that a slot leads to
unfoldable pub text_of : TableAt → ℕ → Result (Option (List ℕ)) BadBuffer
text_of t slot = reference_of t slot >>= λ place. when_present place (text_at t.bytes)

-- a text as the bytes that its reference leads to
abbrev pub text_seen : Result (Bor (List ℕ)) BadBuffer → Result (List ℕ) BadBuffer
text_seen (Ok text) = Ok text.now
text_seen (Err e) = Err e

abbrev pub seen : Result (Option (Bor (List ℕ))) BadBuffer → Result (Option (List ℕ)) BadBuffer
seen (Ok text) = Ok (option_map (λ t. t.now) text)
seen (Err e) = Err e
