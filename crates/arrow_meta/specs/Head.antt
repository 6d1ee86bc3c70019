-- What an Arrow file says of its columns and batches, or why it isn't read (Arrow columnar format, "IPC File Format").
use Rattle.std.specs.Prelude.{ℕ, ◌-◌, List, [], length, map, Bool, true, false, Option, Some, None, Result, Ok, Err, not, ◌||◌, if◌then◌else◌}
use Rattle.std.specs.List.{slice_range, list_any}
use Rattle.std.specs.Option.{ok_or}
use Rattle.std.specs.Result.{result_ok}
use Rattle.arrow_meta.specs.declared.error.MetaError.{MetaError}
use Rattle.arrow_meta.specs.declared.error.MetaError.TheVariants as errors
use Rattle.arrow_meta.specs.declared.field.FieldMeta.{FieldMeta}
use Rattle.arrow_meta.specs.declared.meta.Block.{Block}
use Rattle.arrow_meta.specs.declared.meta.RecordMeta.{RecordMeta}
use Rattle.arrow_meta.specs.Footer.{Footer, footer_in}
use Rattle.arrow_meta.specs.Message.{DictionaryMeta, record_in, dictionary_in}
use Rattle.arrow_meta.specs.Messages.{Place}
use Rattle.arrow_meta.specs.Places.{is_arrow, footer_size, place_in, metadata_in, body_in}
use Rattle.arrow_meta.specs.Dictionary.{DictionaryBlock, ColumnDictionary, column_dictionaries}
use Rattle.sub_types.specs.ResultSteps.{◌>>=◌}

-- why a file isn't read: a footer that can't be read has its place
pub data Refusal : Type 0 where
  NotArrow : Refusal
  BadFooter : ℕ → Refusal
  Unsupported : ℕ → Refusal
  Compressed : Refusal

-- refused where a test holds, and else what is read
abbrev pub refuse_if : {A : Type 0} → Bool → Refusal → Result A Refusal → Result A Refusal
refuse_if test refusal read = if test then Err refusal else read

-- where the footer begins, before its size and the last magic
unfoldable pub footer_place : List ℕ → Result ℕ Refusal
footer_place bytes = do
  size ← refuse_if (not (is_arrow bytes)) NotArrow (ok_or (footer_size bytes) (BadFooter (length bytes - 10)))
  Ok (length bytes - 10 - size)

-- why a footer at a place isn't read
abbrev pub refused : {A : Type 0} → ℕ → Result A MetaError → Result A Refusal
refused place (Ok x) = Ok x
refused place (Err (errors.Unsupported column)) = Err (Unsupported column)
refused place (Err e) = Err (BadFooter place)

-- the footer that begins at a place
unfoldable pub footer_at : List ℕ → ℕ → Result Footer Refusal
footer_at bytes place = refused place (footer_in (slice_range bytes place (length bytes - 10)))

-- what is read of the metadata of a message at a place, which may be missing
abbrev pub read_at : {A : Type 0} → (List ℕ → Result A MetaError) → Option (List ℕ) → Result A MetaError
read_at read None = Err errors.Bad
read_at read (Some metadata) = read metadata

-- the metadata of a block, which lies before the footer
abbrev pub block_metadata : List ℕ → Option Place → Option (List ℕ)
block_metadata bytes None = None
block_metadata bytes (Some place) = metadata_in bytes place

-- what the block of a record batch says
unfoldable pub record_at : List ℕ → ℕ → Block → Result RecordMeta MetaError
record_at bytes footer block = read_at record_in (block_metadata bytes (place_in footer block))

-- what the block of a dictionary says
unfoldable pub dictionary_at : List ℕ → ℕ → Block → Result DictionaryMeta MetaError
dictionary_at bytes footer block = read_at dictionary_in (block_metadata bytes (place_in footer block))

-- the body of a block, empty where it doesn't lie before the footer
abbrev pub place_body : List ℕ → Option Place → List ℕ
place_body bytes None = []
place_body bytes (Some place) = body_in bytes place

unfoldable pub block_body : List ℕ → ℕ → Block → List ℕ
block_body bytes footer block = place_body bytes (place_in footer block)

-- a dictionary block with its body, none where its metadata is bad
abbrev pub dictionary_with : List ℕ → Result DictionaryMeta MetaError → Option DictionaryBlock
dictionary_with body (Ok meta) = Some (record { meta = meta; body = body })
dictionary_with body (Err e) = None

unfoldable pub dictionary_block : List ℕ → ℕ → Block → Option DictionaryBlock
dictionary_block bytes footer block = dictionary_with (block_body bytes footer block) (dictionary_at bytes footer block)

-- a good block is compressed
abbrev pub is_compressed : {A : Type 0} → Result A MetaError → Bool
is_compressed (Err errors.Compressed) = true
is_compressed _ = false

unfoldable pub has_compression : List ℕ → ℕ → Footer → Bool
has_compression bytes place footer =
    list_any (λ block. is_compressed (record_at bytes place block)) footer.records
    || list_any (λ block. is_compressed (dictionary_at bytes place block)) footer.dictionaries

-- the columns, the blocks of the record batches with their metadata, none for a bad one, and the dictionaries of the columns of
-- indices
pub record Head : Type 0 where
  pub columns : List FieldMeta
  pub blocks : List Block
  pub metas : List (Option RecordMeta)
  pub dictionaries : List ColumnDictionary

-- the head of a file with its footer at a place
unfoldable pub head_with : List ℕ → ℕ → Footer → Head
head_with bytes place footer = record {
  columns = footer.columns;
  blocks = footer.records;
  metas = map (λ block. result_ok (record_at bytes place block)) footer.records;
  dictionaries = column_dictionaries (map (dictionary_block bytes place) footer.dictionaries) footer.columns;
}

-- the head of a file
unfoldable pub head_of : List ℕ → Result Head Refusal
head_of bytes = do
  place ← footer_place bytes
  footer ← footer_at bytes place
  refuse_if (has_compression bytes place footer) Compressed (Ok (head_with bytes place footer))
