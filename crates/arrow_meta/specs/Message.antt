-- What the message of a record batch or of a dictionary says (Arrow's Message.fbs).
use Rattle.std.specs.Prelude.{ℕ, ℤ, List, Bool, Option, Some, None, Result, Ok, Err, drop, not, ◌==◌}
use Rattle.std.specs.Int.{w64, cast_signed}
use Rattle.byteorder.specs.Endian.{little_number}
use Rattle.fb_bytes.specs.Reading.{TableAt, VectorAt, root_of, table_of, vector_of, item_of}
use Rattle.arrow_meta.specs.declared.error.MetaError.{MetaError}
use Rattle.arrow_meta.specs.declared.error.MetaError.TheVariants.{Compressed}
use Rattle.arrow_meta.specs.declared.meta.RecordMeta.{RecordMeta}
use Rattle.arrow_meta.specs.Looked.{looked, when, number_in, table_in, is_version}
use Rattle.sub_types.specs.ResultSteps.{◌>>=◌}
use Rattle.arrow_meta.specs.Footer.{each_of}

-- the header of a message, which is of this tag in the union MessageHeader
unfoldable pub header_in : ℕ → List ℕ → Result TableAt MetaError
header_in tag bytes = do
  message ← looked (root_of bytes)
  version ← number_in message 0 2 0
  type ← when (is_version version) (number_in message 1 1 0)
  when (type == tag) (table_in message 2)

-- two signed numbers of eight bytes
abbrev pub pair_in : List ℕ → ℤ × ℤ
pair_in bytes = (cast_signed w64 (little_number 8 bytes), cast_signed w64 (little_number 8 (drop 8 bytes)))

unfoldable pub pair_at : VectorAt → ℕ → ℤ × ℤ
pair_at vector i = pair_in (item_of vector i)

-- the pairs in a slot, none where it is absent
unfoldable pub pairs_in : TableAt → ℕ → Result (List (ℤ × ℤ)) MetaError
pairs_in batch slot = looked (vector_of batch slot 16) >>= λ pairs. Ok (each_of pair_at pairs)

-- a record batch without compression
abbrev pub uncompressed : RecordMeta → Option TableAt → Result RecordMeta MetaError
uncompressed meta None = Ok meta
uncompressed meta (Some compression) = Err Compressed

-- what a record batch says; that it can't be read comes before that it is compressed
unfoldable pub batch_in : TableAt → Result RecordMeta MetaError
batch_in batch = do
  length ← number_in batch 0 8 0
  nodes ← pairs_in batch 1
  buffers ← pairs_in batch 2
  compression ← looked (table_of batch 3)
  uncompressed (record { length = cast_signed w64 length; nodes = nodes; buffers = buffers }) compression

-- what the message of a record batch says
unfoldable pub record_in : List ℕ → Result RecordMeta MetaError
record_in bytes = header_in 3 bytes >>= batch_in

-- a block of a dictionary: its id, whether it adds to the blocks before, and its values as a record batch
pub record DictionaryMeta : Type 0 where
  pub id : ℤ
  pub is_delta : Bool
  pub values : RecordMeta

-- what the message of a dictionary says
unfoldable pub dictionary_in : List ℕ → Result DictionaryMeta MetaError
dictionary_in bytes = do
  dictionary ← header_in 2 bytes
  id ← number_in dictionary 0 8 0
  delta ← number_in dictionary 2 1 0
  batch ← table_in dictionary 1
  values ← batch_in batch
  Ok (record { id = cast_signed w64 id; is_delta = not (delta == 0); values = values })
