-- Where the parts of an Arrow file stand (Arrow columnar format, "IPC File Format").
use Rattle.std.specs.Prelude.{ℕ, ◌+◌, ◌-◌, ℤ, List, length, take, drop, replicate, Bool, Option, Some, ◌&&◌, nat_le}
use Rattle.std.specs.Str.{bytes_eq}
use Rattle.std.specs.Int.{w32, cast_signed}
use Rattle.byteorder.specs.Endian.{little_number}
use Rattle.arrow_meta.specs.declared.meta.Block.{Block}
use Rattle.arrow_meta.specs.File.{magic}
use Rattle.arrow_meta.specs.Messages.{Place}
use Rattle.arrow_meta.specs.Natural.{natural}
use Rattle.sub_types.specs.OptionSteps.{◌>>=◌, when}

-- the signed number in the four bytes at a place
abbrev pub signed_at : List ℕ → ℕ → ℤ
signed_at bytes place = cast_signed w32 (little_number 4 (drop place bytes))

-- the file has at least 18 bytes, and begins and ends with the magic
abbrev pub is_arrow : List ℕ → Bool
is_arrow bytes = nat_le 18 (length bytes) && bytes_eq (take 6 bytes) magic && bytes_eq (drop (length bytes - 6) bytes) magic

-- the size of the footer, which stands before the last magic: at least 1, and no more than there is room for
unfoldable pub footer_size : List ℕ → Option ℕ
footer_size bytes = do
  size ← natural (signed_at bytes (length bytes - 10))
  when (nat_le 1 size && nat_le (size + 18) (length bytes)) (Some size)

-- where a block stands, if it lies before the footer
unfoldable pub place_in : ℕ → Block → Option Place
place_in footer block = do
  offset ← natural block.offset
  meta_len ← natural block.meta_len
  body_len ← natural block.body_len
  when (nat_le 8 meta_len && nat_le (offset + meta_len + body_len) footer) (Some (record { offset = offset; meta_len = meta_len; body_len = body_len }))

-- the metadata of the message at a place, behind the mark and its own size
unfoldable pub metadata_in : List ℕ → Place → Option (List ℕ)
metadata_in bytes place = do
  size ← natural (signed_at bytes (place.offset + 4))
  when (bytes_eq (take 4 (drop place.offset bytes)) (replicate 4 255) && nat_le 1 size && nat_le (size + 8) place.meta_len)
      (Some (take size (drop (place.offset + 8) bytes)))

-- the body of the message at a place
abbrev pub body_in : List ℕ → Place → List ℕ
body_in bytes place = take place.body_len (drop (place.offset + place.meta_len) bytes)
