-- The open files of read relations as definitions see them, and the rows of their blocks.
use Rattle.std.specs.Prelude.{◌≡◌, ℕ, List, [], ◌∷◌, length, map, Option, Some, None, IsSome, unwrap_or, ◌==◌, if◌then◌else◌}
use Rattle.std.specs.List.{All, flat_map, sum_by}
use Rattle.sub_types.specs.declared.kind.Ty.{Ty}
use Rattle.sub_types.specs.Stream.{Stream, glue}
use Rattle.plan_denote.specs.Rows.{Row}
use Rattle.block_source.specs.declared.file.BlockFile.{BlockFile}
use Rattle.block_source.specs.Seen.{AreHeads}
use Rattle.table_open.specs.Files.{TableFile}
use Rattle.table_rows.specs.Blocks.{HaveKinds}
use Rattle.plan_tables.specs.declared.open.OpenRead.{OpenRead}
use Rattle.plan_tables.specs.Open.{open_seen, AreTold, count_files}
use Rattle.plan_tables.specs.Tables.{blocks_of, files_in}
use Rattle.open_blocks.specs.declared.apart.Apart.{Apart}
use Rattle.open_blocks.specs.declared.files.ReadFiles.{ReadFiles}

-- the files of a read relation: the relation's number, the files, their numbers among the words, and what is told of their bytes
pub record FilesSeen : Type 0 where
  pub relation : ℕ
  pub files : List BlockFile
  pub numbers : List ℕ
  pub bytes : List (Option (List ℕ))

abbrev pub files_seen : {R : Type 0} → (R → Option (List ℕ)) → ReadFiles R → FilesSeen
files_seen bytes one = record { relation = one.relation; files = one.blocks.files.items; numbers = one.numbers.items; bytes = map bytes one.readers.items }

-- there is a number and a reader for each file; the heads are those of the files, and the wanted columns can be read, as values of these types' kinds
pub record AreOpenFor (types : List Ty) (seen : FilesSeen) : Type 0 where
  pub numbered : length seen.numbers ≡ length seen.files
  pub lent : length seen.bytes ≡ length seen.files
  pub heads : AreHeads seen.files seen.bytes
  pub kinds : All (λ (file : BlockFile). HaveKinds file.head.schema.columns file.wanted.items types) seen.files

-- every file tells its bytes
abbrev pub AllTell : List (Option (List ℕ)) → Type 0
AllTell bytes = All (λ (told : Option (List ℕ)). IsSome told) bytes

-- the files of a table; the bytes of a file are empty where they aren't told
abbrev pub tables_with : List BlockFile → List ℕ → List (Option (List ℕ)) → List TableFile
tables_with (one ∷ files) (number ∷ numbers) (told ∷ bytes) =
    record { number = number; bytes = unwrap_or told []; blocks = length one.head.blocks.items; wanted = one.wanted.items } ∷ tables_with files numbers bytes
tables_with _ _ _ = []

abbrev pub tables_in : FilesSeen → List TableFile
tables_in seen = tables_with seen.files seen.numbers seen.bytes

-- the rows of all blocks of the files, up to the first that is bad
unfoldable pub stream_in : FilesSeen → Stream Row
stream_in seen = glue (flat_map (blocks_of seen.relation) (tables_in seen))

-- the files of the read relation with this number, the first if there were several
abbrev pub files_at : ℕ → List FilesSeen → Option FilesSeen
files_at number [] = None
files_at number (one ∷ all) = if one.relation == number then Some one else files_at number all

-- files with the readers that are open for a read relation
pub record AreFilesOf {R : Type 0} (bytes : R → Option (List ℕ)) (one : OpenRead R) (files : ReadFiles R) : Type 0 where
  pub relation : files.relation ≡ one.read.relation
  pub ready : AreOpenFor one.read.types (files_seen bytes files)
  pub tables : tables_in (files_seen bytes files) ≡ files_in (open_seen bytes one)
  pub told : AreTold bytes one.tables.items → AllTell (map bytes files.readers.items)
  pub count : length files.readers.items ≡ count_files one.tables.items

-- files that were taken apart, for the read relation of a number
pub record AreMadeOf {R : Type 0} (given : ℕ × Apart R) (files : ReadFiles R) : Type 0 where
  pub relation : files.relation ≡ given.0
  pub files_are : files.blocks.files.items ≡ given.1.files.items
  pub numbers_are : files.numbers.items ≡ given.1.numbers.items
  pub readers_are : files.readers.items ≡ given.1.readers.items

-- how many readers stand in files, and how many of their reads failed
abbrev pub count_readers : {R : Type 0} → List (ReadFiles R) → ℕ
count_readers all = sum_by (λ one. length one.readers.items) all

abbrev pub faults_of : {R : Type 0} → (R → ℕ) → List (ReadFiles R) → ℕ
faults_of faults all = sum_by (λ one. sum_by faults one.readers.items) all
