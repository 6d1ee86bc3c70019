-- The table that an Arrow file holds.
use Rattle.std.specs.Prelude.{◌≡◌, ℕ, ◌^◌, ◌<◌, ◌==◌, List, length, map, Option, Some, None, slice_get}
use Rattle.std.specs.List.{range_with_len, flat_map, filter_map, find, All}
use Rattle.std.specs.Option.{option_and_then}
use Rattle.std.specs.Result.{result_ok}
use Rattle.sub_types.specs.Kind.{IsKind}
use Rattle.sub_types.specs.Value.{Fits}
use Rattle.sub_types.specs.declared.kind.Ty.{Ty}
use Rattle.sub_types.specs.declared.value.Value.{Value}
use Rattle.arrow_meta.specs.declared.field.FieldMeta.{FieldMeta}
use Rattle.arrow_meta.specs.declared.field.Shape.TheVariants.{Known, Skip}
use Rattle.sub_types.specs.OptionSteps.{◌>>=◌, all_of}
use Rattle.arrow_meta.specs.Batch.{Wanted, buffers_of, rows_in}
use Rattle.arrow_meta.specs.Dictionary.{ColumnDictionary}
use Rattle.arrow_meta.specs.Head.{Head, head_of, footer_place, block_body}
use Rattle.arrow_meta.specs.File.{file_of, footer_of}

-- how many buffers each column has
abbrev pub shapes_of : List FieldMeta → List ℕ
shapes_of columns = map (λ field. buffers_of field.shape) columns

-- the dictionary of a column, none where it is bad or the column has no indices
abbrev pub dictionary_of : List ColumnDictionary → ℕ → Option (List (Option (List ℕ)))
dictionary_of dictionaries column = option_and_then (λ dictionary. dictionary.values) (find (λ dictionary. dictionary.column == column) dictionaries)

-- a column that is wanted, if it can be read
abbrev pub wanted_as : List ColumnDictionary → ℕ → Option FieldMeta → Option Wanted
wanted_as dictionaries column None = None
wanted_as dictionaries column (Some field) = elim field.shape [
  | Known kind layout ↦ Some (record { column = column; kind = kind; layout = layout; dictionary = dictionary_of dictionaries column })
  | Skip buffers ↦ None
]

-- the wanted columns that can be read
unfoldable pub wanted_in : Head → List ℕ → List Wanted
wanted_in head wanted = filter_map (λ column. wanted_as head.dictionaries column (slice_get head.columns column)) wanted

-- where the footer begins, and the head
pub record Opened : Type 0 where
  pub footer : ℕ
  pub head : Head

unfoldable pub opened : List ℕ → Option Opened
opened bytes = do
  footer ← result_ok (footer_place bytes)
  head ← result_ok (head_of bytes)
  Some (record { footer = footer; head = head })

-- the rows of the wanted columns in the block at a place of the footer, none where it is bad
unfoldable pub rows_with : List ℕ → Opened → ℕ → List ℕ → Option (List (List Value))
rows_with bytes file block wanted = do
  place ← slice_get file.head.blocks block
  found ← slice_get file.head.metas block
  meta ← found
  rows_in (shapes_of file.head.columns) meta (block_body bytes file.footer place) (wanted_in file.head wanted)

unfoldable pub rows_of : List ℕ → ℕ → List ℕ → Option (List (List Value))
rows_of bytes block wanted = opened bytes >>= λ file. rows_with bytes file block wanted

-- names, types and rows
pub record Table : Type 0 where
  pub names : List (List ℕ)
  pub types : List Ty
  pub rows : List (List Value)

-- the type of a column that can be read
abbrev pub type_of : FieldMeta → Option Ty
type_of field = elim field.shape [ Known kind layout ↦ Some (record { kind = kind; nullable = field.nullable }) | Skip buffers ↦ None ]

-- the table of a file whose columns can all be read and whose blocks are all good
unfoldable pub table_of : List ℕ → Option Table
table_of bytes = do
  file ← opened bytes
  types ← all_of (map type_of file.head.columns)
  batches ← all_of (map (λ block. rows_with bytes file block (range_with_len 0 (length file.head.columns))) (range_with_len 0 (length file.head.blocks)))
  Some (record { names = map (λ field. field.name) file.head.columns; types = types; rows = flat_map (λ rows. rows) batches })

-- What is asked of names, types and rows that are written, so that their file is read: as many names as types, each decimal has
-- 1 to 38 digits, every row fits, and footer and file aren't too long.
pub record CanBeWritten (names : List (List ℕ)) (types : List Ty) (rows : List (List Value)) : Type 0 where
  pub same_count : length names ≡ length types
  pub kinds : All (λ ty. IsKind ty.kind) types
  pub fitting : All (Fits types) rows
  pub short_footer : length (footer_of names types rows) < 2 ^ 31
  pub short_file : length (file_of names types rows) < 2 ^ 63

-- the table of a written file is what was written
abbrev pub TableReadsBack : Type 0
TableReadsBack =
    (names : List (List ℕ)) (types : List Ty) (rows : List (List Value)) → CanBeWritten names types rows
    → table_of (file_of names types rows) ≡ Some (record { names = names; types = types; rows = rows })
