-- The files of tables apart from their readers.
use Rattle.std.specs.Prelude.{◌≡◌, ℕ, ◌+◌, ◌≤◌, List, [], ◌++◌, length, map, vec_len}
use Rattle.std.specs.List.{flat_map}
use Rattle.std.specs.Vec.{vec_capacity}
use Rattle.block_source.specs.declared.file.BlockFile.{BlockFile}
use Rattle.table_open.specs.declared.file.OpenFile.{OpenFile}
use Rattle.plan_tables.specs.Open.{OpenTable}
use Rattle.open_blocks.specs.declared.apart.Apart.{Apart}

-- the files of tables, table by table
abbrev pub files_of : {R : Type 0} → List (OpenTable R) → List (OpenFile R)
files_of tables = flat_map (λ table. table.items) tables

-- no file stands there
pub record HasNone {R : Type 0} (apart : Apart R) : Type 0 where
  pub files : apart.files.items ≡ []
  pub numbers : apart.numbers.items ≡ []
  pub readers : apart.readers.items ≡ []

-- there is room for so many files more
pub record HasRoom {R : Type 0} (count : ℕ) (apart : Apart R) : Type 0 where
  pub files : vec_len apart.files + count ≤ vec_capacity apart.files
  pub numbers : vec_len apart.numbers + count ≤ vec_capacity apart.numbers
  pub readers : vec_len apart.readers + count ≤ vec_capacity apart.readers

-- these files stand behind those before, in one order
pub record AreAdded {R : Type 0} (more : List (OpenFile R)) (old new : Apart R) : Type 0 where
  pub heads : map (λ file. file.head) new.files.items ≡ map (λ file. file.head) old.files.items ++ map (λ file. file.head) more
  pub wanted : map (λ file. file.wanted.items) new.files.items ≡ map (λ file. file.wanted.items) old.files.items ++ map (λ file. file.wanted.items) more
  pub numbers : new.numbers.items ≡ old.numbers.items ++ map (λ file. file.file) more
  pub readers : new.readers.items ≡ old.readers.items ++ map (λ file. file.reader) more
  pub files_len : vec_len new.files ≡ vec_len old.files + length more
  pub numbers_len : vec_len new.numbers ≡ vec_len old.numbers + length more
  pub readers_len : vec_len new.readers ≡ vec_len old.readers + length more
  pub files_room : vec_capacity new.files ≡ vec_capacity old.files
  pub numbers_room : vec_capacity new.numbers ≡ vec_capacity old.numbers
  pub readers_room : vec_capacity new.readers ≡ vec_capacity old.readers

-- they are those files
pub record ArePartsOf {R : Type 0} (opened : List (OpenFile R)) (files : List BlockFile) (numbers : List ℕ) (readers : List R) : Type 0 where
  pub heads : map (λ (file : BlockFile). file.head) files ≡ map (λ (file : OpenFile R). file.head) opened
  pub wanted : map (λ (file : BlockFile). file.wanted.items) files ≡ map (λ (file : OpenFile R). file.wanted.items) opened
  pub numbers_are : numbers ≡ map (λ (file : OpenFile R). file.file) opened
  pub readers_are : readers ≡ map (λ (file : OpenFile R). file.reader) opened
