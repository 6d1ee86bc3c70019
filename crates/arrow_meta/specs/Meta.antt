-- What is written for a block and for the metadata of a record batch: signed numbers as two's complement.
use Rattle.std.specs.Prelude.{ℕ, ℤ, map}
use Rattle.std.specs.Int.{w32, w64, cast_unsigned}
use Rattle.fb_bytes.specs.Layout.{Laid}
use Rattle.arrow_meta.specs.declared.meta.Block.{Block}
use Rattle.arrow_meta.specs.declared.meta.RecordMeta.{RecordMeta}
use Rattle.arrow_meta.specs.Messages.{Place, record_message}

-- both numbers of a pair
abbrev pub unsigned_pair : ℤ × ℤ → ℕ × ℕ
unsigned_pair pair = (cast_unsigned w64 pair.0, cast_unsigned w64 pair.1)

-- the message of a record batch whose body has so many bytes
abbrev pub record_of : RecordMeta → ℤ → Laid
record_of meta body_len =
    record_message (cast_unsigned w64 meta.length) (map unsigned_pair meta.nodes) (map unsigned_pair meta.buffers) (cast_unsigned w64 body_len)

-- the place that a block names
abbrev pub place_of : Block → Place
place_of block =
    record { offset = cast_unsigned w64 block.offset; meta_len = cast_unsigned w32 block.meta_len; body_len = cast_unsigned w64 block.body_len }
