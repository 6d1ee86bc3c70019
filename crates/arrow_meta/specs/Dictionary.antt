-- The dictionaries of a file (Arrow columnar format, "Dictionary Messages").
use Rattle.std.specs.Prelude.{ℕ, ◌^◌, ℤ, List, [], ◌∷◌, length, map, filter, Bool, true, Option, Some, None, nat_lt}
use Rattle.std.specs.List.{list_all, flat_map, filter_map, enumerate_from}
use Rattle.std.specs.Option.{option_map}
use Rattle.std.specs.Ordering.{int_eq}
use Rattle.arrow_meta.specs.declared.field.FieldMeta.{FieldMeta}
use Rattle.arrow_meta.specs.declared.field.Layout.TheVariants.{Index}
use Rattle.arrow_meta.specs.declared.field.Shape.{Shape}
use Rattle.arrow_meta.specs.declared.field.Shape.TheVariants.{Known}
use Rattle.arrow_meta.specs.declared.meta.RecordMeta.{RecordMeta}
use Rattle.arrow_meta.specs.Message.{DictionaryMeta}
use Rattle.sub_types.specs.OptionSteps.{◌>>=◌, when, all_of}
use Rattle.arrow_meta.specs.Values.{validity_in, texts_in}
use Rattle.arrow_meta.specs.Batch.{count_in, column_buffers}

-- a dictionary block: what its metadata says, and its body
pub record DictionaryBlock : Type 0 where
  pub meta : DictionaryMeta
  pub body : List ℕ

-- the texts in the buffers of a column of texts
abbrev pub buffer_texts : Bool → ℕ → List (List ℕ) → Option (List (Option (List ℕ)))
buffer_texts wide count (validity ∷ offsets ∷ bytes ∷ []) = validity_in count validity >>= λ valid. texts_in wide count valid offsets bytes
buffer_texts wide count buffers = None

-- the values of a batch of one column of texts
unfoldable pub batch_texts : Bool → RecordMeta → List ℕ → Option (List (Option (List ℕ)))
batch_texts wide values body = do
  count ← count_in (3 ∷ []) values
  buffers ← column_buffers (3 ∷ []) values body count 0
  buffer_texts wide count buffers

-- the values of a block
abbrev pub block_texts : Bool → DictionaryBlock → Option (List (Option (List ℕ)))
block_texts wide block = batch_texts wide block.meta.values block.body

-- all blocks but the first add to those before
abbrev pub are_deltas : List DictionaryBlock → Bool
are_deltas [] = true
are_deltas (first ∷ others) = list_all (λ block. block.meta.is_delta) others

-- one list behind the other
abbrev pub joined : List (List (Option (List ℕ))) → List (Option (List ℕ))
joined lists = flat_map (λ xs. xs) lists

-- the values of the blocks of one dictionary
unfoldable pub texts_of : Bool → List DictionaryBlock → Option (List (Option (List ℕ)))
texts_of wide blocks = do
  lists ← when (are_deltas blocks) (all_of (map (block_texts wide) blocks))
  when (nat_lt (length (joined lists)) (2 ^ 31)) (Some (joined lists))

-- the values of the dictionary of this id; bad where the metadata of some block is
unfoldable pub dictionary_texts : ℤ → Bool → List (Option DictionaryBlock) → Option (List (Option (List ℕ)))
dictionary_texts id wide blocks = do
  good ← all_of blocks
  texts_of wide (filter (λ block. int_eq block.meta.id id) good)

-- the dictionary of a column of indices, none where it is bad
pub record ColumnDictionary : Type 0 where
  pub column : ℕ
  pub values : Option (List (Option (List ℕ)))

-- the id of the dictionary that a column of indices names, and whether its offsets are wide
abbrev pub index_of : Shape → Option (ℤ × Bool)
index_of (Known kind (Index id width signed wide)) = Some (id, wide)
index_of shape = None

-- the dictionary of a numbered column, none where the column isn't one of indices
abbrev pub column_dictionary : List (Option DictionaryBlock) → ℕ × FieldMeta → Option ColumnDictionary
column_dictionary blocks column =
    option_map (λ index. record { column = column.0; values = dictionary_texts index.0 index.1 blocks }) (index_of column.1.shape)

-- the dictionaries of the columns of indices, in their order
abbrev pub column_dictionaries : List (Option DictionaryBlock) → List FieldMeta → List ColumnDictionary
column_dictionaries blocks columns = filter_map (column_dictionary blocks) (enumerate_from 0 columns)
