-- The sizes that stand in a file before what they count.
use Rattle.std.specs.Prelude.{ℕ, ◌+◌, List, take, drop, replicate, Option, Some, ◌&&◌, nat_le}
use Rattle.std.specs.Int.{w32, cast_signed}
use Rattle.std.specs.Str.{bytes_eq}
use Rattle.byteorder.specs.Endian.{little_number}
use Rattle.arrow_meta.specs.Natural.{natural}
use Rattle.sub_types.specs.OptionSteps.{◌>>=◌, when}

-- the size of the footer of a file of a length, from the bytes in which it stands
abbrev pub size_of_footer : ℕ → List ℕ → Option ℕ
size_of_footer len bytes = natural (cast_signed w32 (little_number 4 bytes)) >>= λ size. when (nat_le 1 size && nat_le (size + 18) len) (Some size)

-- the size of the metadata of a message, from the first eight bytes of the message
abbrev pub size_of_metadata : ℕ → List ℕ → Option ℕ
size_of_metadata meta_len bytes =
    natural (cast_signed w32 (little_number 4 (drop 4 bytes))) >>= λ size.
    when (bytes_eq (take 4 bytes) (replicate 4 255) && nat_le 1 size && nat_le (size + 8) meta_len) (Some size)
