-- The files of tables apart from their readers.
use Rattle.std.proofs.Common.{◌≡◌, ◌∙◌, ℕ, zero, suc, ◌+◌, List, [], ◌∷◌, ◌++◌, Option, IsSome, Result, Ok, Err, OnOk, unwrap_or, length, length-append, map, sum_by, vec_len, refl, sym, ap, subst, arith}
use Rattle.std.specs.List.{All, AllZip, flat_map}
use Rattle.std.proofs.lemmas.List.{map-append, length-map}
use Rattle.std.proofs.lemmas.List.FromFn.{length-map-range_with_len}
use Rattle.std.proofs.lemmas.List.Elements.{All-nil, All-cons, All-head, All-tail, All-append}
use Rattle.std.proofs.lemmas.List.Sums.{sum_by-cons}
use Rattle.sub_types.specs.declared.kind.Ty.{Ty}
use Rattle.sub_types.specs.declared.memory.NoMemory.{NoMemory}
use Rattle.arrow_read.specs.declared.head.FileHead.{FileHead}
use Rattle.arrow_meta.specs.Head.{head_of}
use Rattle.arrow_read.specs.Told.{IfTold}
use Rattle.arrow_read.specs.Seen.{head_seen}
use Rattle.block_source.specs.declared.file.BlockFile.{BlockFile}
use Rattle.block_source.specs.Places.{place_in, places_in, places_from, places_of, counts_of}
use Rattle.block_source.specs.Seen.{AreHeads}
use Rattle.table_open.specs.declared.file.OpenFile.{OpenFile}
use Rattle.table_open.specs.Files.{TableFile}
use Rattle.table_open.specs.Ready.{file_seen, IsReady}
use Rattle.table_rows.specs.Blocks.{HaveKinds}
use Rattle.plan_tables.specs.declared.open.OpenRead.{OpenRead}
use Rattle.plan_tables.specs.Open.{OpenTable, table_seen, AreTold, AreReady, count_files, count_open}
use Rattle.open_blocks.specs.Apart.{ArePartsOf, files_of}
use Rattle.open_blocks.specs.Files.{AllTell, AreFilesOf, AreMadeOf, count_readers, tables_with}
use Rattle.open_blocks.specs.Taken.{Adds}
use Rattle.open_blocks.specs.declared.apart.Apart.{Apart}
use Rattle.open_blocks.specs.declared.files.ReadFiles.{ReadFiles}

-- the blocks of files are as many as the files say
places-count : (files : List BlockFile) (numbers : List ℕ) (told : List (Option (List ℕ))) (from : ℕ) → length numbers ≡ length files → length told ≡ length files
    → length (places_from from (counts_of files)) ≡ sum_by (λ (file : TableFile). file.blocks) (tables_with files numbers told)
places-count [] numbers told from many lent = refl
places-count (one ∷ files) [] told from many lent = absurd (omega (arith, many))
places-count (one ∷ files) (number ∷ numbers) [] from many lent = absurd (omega (arith, lent))
places-count (one ∷ files) (number ∷ numbers) (bytes ∷ told) from many lent =
    let count = vec_len one.head.blocks in
    let here : length (places_in from count) ≡ count = length-map-range_with_len (place_in from) 0 count in
    let there = places-count files numbers told (from + 1) (omega (arith, many)) (omega (arith, lent)) in
    let both = length-append (places_in from count) (places_from (from + 1) (counts_of files)) in
    let first : TableFile = record { number = number; bytes = unwrap_or bytes []; blocks = length one.head.blocks.items; wanted = one.wanted.items } in
    omega (arith, here, there, both, one.head.blocks.ok.0, sum_by-cons (λ (file : TableFile). file.blocks) first (tables_with files numbers told))

pub all-places : (files : List BlockFile) (numbers : List ℕ) (told : List (Option (List ℕ))) → length numbers ≡ length files → length told ≡ length files
    → length (places_of files) ≡ sum_by (λ (file : TableFile). file.blocks) (tables_with files numbers told)
all-places files numbers told many lent = places-count files numbers told 0 many lent

head_at : (one : BlockFile) (files : List BlockFile) (told : Option (List ℕ)) (all : List (Option (List ℕ))) → IfTold told (λ bytes. head_of bytes ≡ Ok (head_seen one.head)) → AreHeads files all
    → AreHeads (one ∷ files) (told ∷ all)
head_at one files told all own others zero found is = let same : one ≡ found = cc in λ bytes tells. own bytes tells ∙ ap (λ (f : BlockFile). Ok (head_seen f.head)) same
head_at one files told all own others (suc at) found is = others at found is

module _ {R : Type 0} (bytes : R → Option (List ℕ)) where
  -- files apart are seen as the item ones
  parts_seen : (opened : List (OpenFile R)) (files : List BlockFile) (numbers : List ℕ) (readers : List R) → map (λ (f : BlockFile). f.head) files ≡ map (λ (f : OpenFile R). f.head) opened
      → map (λ (f : BlockFile). f.wanted.items) files ≡ map (λ (f : OpenFile R). f.wanted.items) opened → numbers ≡ map (λ (f : OpenFile R). f.file) opened → readers ≡ map (λ (f : OpenFile R). f.reader) opened
      → tables_with files numbers (map bytes readers) ≡ map (file_seen bytes) opened
  parts_seen [] [] numbers readers heads wanted named read = refl
  parts_seen [] (one ∷ files) numbers readers heads wanted named read = absurd (cc)
  parts_seen (item ∷ opened) [] numbers readers heads wanted named read = absurd (cc)
  parts_seen (item ∷ opened) (one ∷ files) [] readers heads wanted named read = absurd (cc)
  parts_seen (item ∷ opened) (one ∷ files) (number ∷ numbers) [] heads wanted named read = absurd (cc)
  parts_seen (item ∷ opened) (one ∷ files) (number ∷ numbers) (reader ∷ readers) heads wanted named read =
      let head : one.head ≡ item.head = cc in
      let places : one.wanted.items ≡ item.wanted.items = cc in
      let word : number ≡ item.file = cc in
      let same : reader ≡ item.reader = cc in
      let more_heads : map (λ (f : BlockFile). f.head) files ≡ map (λ (f : OpenFile R). f.head) opened = cc in
      let more_wanted : map (λ (f : BlockFile). f.wanted.items) files ≡ map (λ (f : OpenFile R). f.wanted.items) opened = cc in
      let more_named : numbers ≡ map (λ (f : OpenFile R). f.file) opened = cc in
      let more_read : readers ≡ map (λ (f : OpenFile R). f.reader) opened = cc in
      let first : TableFile = record { number = number; bytes = unwrap_or (bytes reader) []; blocks = length one.head.blocks.items; wanted = one.wanted.items } in
      let here : first ≡ file_seen bytes item = λ i. record { number = word i; bytes = unwrap_or (bytes (same i)) []; blocks = length (head i).blocks.items; wanted = places i } in
      ap (λ f. f ∷ tables_with files numbers (map bytes readers)) here ∙ ap (λ more. file_seen bytes item ∷ more) (parts_seen opened files numbers readers more_heads more_wanted more_named more_read)

  -- table by table
  files_flat : (opened : List (OpenTable R)) → map (file_seen bytes) (files_of opened) ≡ flat_map (table_seen bytes) opened
  files_flat [] = refl
  files_flat (table ∷ opened) = map-append (file_seen bytes) table.items (files_of opened) ∙ ap (λ more. map (file_seen bytes) table.items ++ more) (files_flat opened)

  pub parts_are : (opened : List (OpenTable R)) (files : List BlockFile) (numbers : List ℕ) (readers : List R) → ArePartsOf (files_of opened) files numbers readers
      → tables_with files numbers (map bytes readers) ≡ flat_map (table_seen bytes) opened
  parts_are opened files numbers readers parts = parts_seen (files_of opened) files numbers readers parts.heads parts.wanted parts.numbers_are parts.readers_are ∙ files_flat opened

  -- what is so of each item file of tables
  pub each_ready : (types : List Ty) (opened : List (OpenTable R)) → AreReady bytes types opened → All (IsReady bytes types) (files_of opened)
  each_ready types [] ready = All-nil (IsReady bytes types)
  each_ready types (table ∷ opened) ready =
      let P : OpenTable R → Type 0 = λ t. All (IsReady bytes types) t.items in
      All-append (IsReady bytes types) table.items (files_of opened) (All-head P table opened ready) (each_ready types opened (All-tail P table opened ready))

  each_told : (opened : List (OpenTable R)) → AreTold bytes opened → All (λ (f : OpenFile R). IsSome (bytes f.reader)) (files_of opened)
  each_told [] told = All-nil (λ (f : OpenFile R). IsSome (bytes f.reader))
  each_told (table ∷ opened) told =
      let Q : OpenFile R → Type 0 = λ f. IsSome (bytes f.reader) in
      let P : OpenTable R → Type 0 = λ t. All Q t.items in
      All-append Q table.items (files_of opened) (All-head P table opened told) (each_told opened (All-tail P table opened told))

  all_tell : (opened : List (OpenFile R)) → All (λ (f : OpenFile R). IsSome (bytes f.reader)) opened → AllTell (map bytes (map (λ (f : OpenFile R). f.reader) opened))
  all_tell [] told = All-nil (λ (told : Option (List ℕ)). IsSome told)
  all_tell (item ∷ opened) told =
      let Q : OpenFile R → Type 0 = λ f. IsSome (bytes f.reader) in
      All-cons (λ (x : Option (List ℕ)). IsSome x) (bytes item.reader) (map bytes (map (λ (f : OpenFile R). f.reader) opened)) (All-head Q item opened told) (all_tell opened (All-tail Q item opened told))

  pub tell_all : (opened : List (OpenTable R)) (readers : List R) → readers ≡ map (λ (f : OpenFile R). f.reader) (files_of opened) → AreTold bytes opened → AllTell (map bytes readers)
  tell_all opened readers same told = subst (λ (all : List R). AllTell (map bytes all)) (sym same) (all_tell (files_of opened) (each_told opened told))

  -- the heads are those of the readers' files
  heads_of : (types : List Ty) (opened : List (OpenFile R)) (files : List BlockFile) (readers : List R) → map (λ (f : BlockFile). f.head) files ≡ map (λ (f : OpenFile R). f.head) opened
      → readers ≡ map (λ (f : OpenFile R). f.reader) opened → All (IsReady bytes types) opened → AreHeads files (map bytes readers)
  heads_of types opened [] readers heads read ready = λ at found is. absurd (cc)
  heads_of types [] (one ∷ files) readers heads read ready = absurd (cc)
  heads_of types (item ∷ opened) (one ∷ files) [] heads read ready = absurd (cc)
  heads_of types (item ∷ opened) (one ∷ files) (reader ∷ readers) heads read ready =
      let head : one.head ≡ item.head = cc in
      let same : reader ≡ item.reader = cc in
      let more_heads : map (λ (f : BlockFile). f.head) files ≡ map (λ (f : OpenFile R). f.head) opened = cc in
      let more_read : readers ≡ map (λ (f : OpenFile R). f.reader) opened = cc in
      let own : IfTold (bytes reader) (λ told. head_of told ≡ Ok (head_seen one.head)) =
      λ told tells. (All-head (IsReady bytes types) item opened ready).head told (sym (ap bytes same) ∙ tells) ∙ ap (λ (h : FileHead). Ok (head_seen h)) (sym head) in
      head_at one files (bytes reader) (map bytes readers) own (heads_of types opened files readers more_heads more_read (All-tail (IsReady bytes types) item opened ready))

  -- and their wanted columns have the types' kinds
  pub kinds_of_parts : (types : List Ty) (opened : List (OpenFile R)) (files : List BlockFile) → map (λ (f : BlockFile). f.head) files ≡ map (λ (f : OpenFile R). f.head) opened
      → map (λ (f : BlockFile). f.wanted.items) files ≡ map (λ (f : OpenFile R). f.wanted.items) opened → All (IsReady bytes types) opened
      → All (λ (f : BlockFile). HaveKinds f.head.schema.columns f.wanted.items types) files
  kinds_of_parts types opened [] heads wanted ready = All-nil (λ (f : BlockFile). HaveKinds f.head.schema.columns f.wanted.items types)
  kinds_of_parts types [] (one ∷ files) heads wanted ready = absurd (cc)
  kinds_of_parts types (item ∷ opened) (one ∷ files) heads wanted ready =
      let P : BlockFile → Type 0 = λ f. HaveKinds f.head.schema.columns f.wanted.items types in
      let head : item.head ≡ one.head = cc in
      let places : item.wanted.items ≡ one.wanted.items = cc in
      let more_heads : map (λ (f : BlockFile). f.head) files ≡ map (λ (f : OpenFile R). f.head) opened = cc in
      let more_wanted : map (λ (f : BlockFile). f.wanted.items) files ≡ map (λ (f : OpenFile R). f.wanted.items) opened = cc in
      let own : HaveKinds item.head.schema.columns item.wanted.items types = (All-head (IsReady bytes types) item opened ready).kinds in
      All-cons P one files (subst (λ (w : List ℕ). HaveKinds one.head.schema.columns w types) places (subst (λ (h : FileHead). HaveKinds h.schema.columns item.wanted.items types) head own))
      (kinds_of_parts types opened files more_heads more_wanted (All-tail (IsReady bytes types) item opened ready))

  pub heads_of_parts : (types : List Ty) (opened : List (OpenTable R)) (files : List BlockFile) (numbers : List ℕ) (readers : List R) → ArePartsOf (files_of opened) files numbers readers → AreReady bytes types opened
      → AreHeads files (map bytes readers)
  heads_of_parts types opened files numbers readers parts ready = heads_of types (files_of opened) files readers parts.heads parts.readers_are (each_ready types opened ready)

-- how many files there are
pub count-files : {R : Type 0} (opened : List (OpenTable R)) → count_files opened ≡ length (files_of opened)
count-files {R = R} [] = refl
count-files {R = R} (table ∷ opened) =
    sum_by-cons (λ (t : OpenTable R). length t.items) table opened ∙ ap (λ n. length table.items + n) (count-files opened) ∙ sym (length-append table.items (files_of opened))

module _ {R : Type 0} (bytes : R → Option (List ℕ)) where
  -- the files of tables that are seen one by one
  flat_seen : (opened : List (OpenTable R)) → flat_map (table_seen bytes) opened ≡ flat_map (λ (table : List TableFile). table) (map (table_seen bytes) opened)
  flat_seen [] = refl
  flat_seen (table ∷ opened) = ap (λ (more : List TableFile). table_seen bytes table ++ more) (flat_seen opened)

  -- files that were taken apart are those of the read relation
  pub made_files : (one : OpenRead R) (apart : Apart R) (files : ReadFiles R) → AreMadeOf (one.read.relation, apart) files
      → ArePartsOf (files_of one.tables.items) apart.files.items apart.numbers.items apart.readers.items → AreReady bytes one.read.types one.tables.items → AreFilesOf bytes one files
  made_files one apart files made parts ready =
      let opened = files_of one.tables.items in
      let H : BlockFile → FileHead = λ file. file.head in
      let own : ArePartsOf opened files.blocks.files.items files.numbers.items files.readers.items = record {
        heads = ap (map H) made.files_are ∙ parts.heads;
        wanted = ap (map (λ (file : BlockFile). file.wanted.items)) made.files_are ∙ parts.wanted;
        numbers_are = made.numbers_are ∙ parts.numbers_are;
        readers_are = made.readers_are ∙ parts.readers_are;
      } in
      let many : length files.blocks.files.items ≡ length opened = sym (length-map files.blocks.files.items H) ∙ ap length own.heads ∙ length-map opened (λ (file : OpenFile R). file.head) in
      let named : length files.numbers.items ≡ length opened = ap length own.numbers_are ∙ length-map opened (λ (file : OpenFile R). file.file) in
      let lent : length files.readers.items ≡ length opened = ap length own.readers_are ∙ length-map opened (λ (file : OpenFile R). file.reader) in
      record {
        relation = made.relation;
        ready = record {
          numbered = named ∙ sym many;
          lent = length-map files.readers.items bytes ∙ lent ∙ sym many;
          heads = heads_of_parts bytes one.read.types one.tables.items files.blocks.files.items files.numbers.items files.readers.items own ready;
          kinds = kinds_of_parts bytes one.read.types opened files.blocks.files.items own.heads own.wanted (each_ready bytes one.read.types one.tables.items ready);
        };
        tables = parts_are bytes one.tables.items files.blocks.files.items files.numbers.items files.readers.items own ∙ flat_seen one.tables.items;
        told = tell_all bytes one.tables.items files.readers.items own.readers_are;
        count = lent ∙ sym (count-files one.tables.items);
      }

  module _ (one : OpenRead R) (apart : Apart R) (parts : ArePartsOf (files_of one.tables.items) apart.files.items apart.numbers.items apart.readers.items) (ready : AreReady bytes one.read.types one.tables.items) where
    each_made : (more : List (ReadFiles R)) → AllZip AreMadeOf ((one.read.relation, apart) ∷ []) more → AllZip (AreFilesOf bytes) (one ∷ []) more
    each_made [] made = absurd made
    each_made (files ∷ []) made = (made_files one apart files made.0 parts ready, tt)
    each_made (files ∷ other ∷ more) made = absurd made.1

    pub made_added : (old new : List (ReadFiles R)) (result : Result (Unit {0}) NoMemory) → OnOk result (Adds AreMadeOf ((one.read.relation, apart) ∷ []) old new) → OnOk result (Adds (AreFilesOf bytes) (one ∷ []) old new)
    made_added old new (Ok u) adds = record { more = adds.more; added = adds.added; each_is = each_made adds.more adds.each_is }
    made_added old new (Err e) adds = tt

  -- all readers stand in the files
  pub all_counted : (opened : List (OpenRead R)) (all : List (ReadFiles R)) → AllZip (AreFilesOf bytes) opened all → count_readers all ≡ count_open opened
  all_counted [] [] are = refl
  all_counted [] (files ∷ all) are = absurd are
  all_counted (one ∷ opened) [] are = absurd are
  all_counted (one ∷ opened) (files ∷ all) are =
      omega (arith, are.0.count, all_counted opened all are.1, sum_by-cons (λ (f : ReadFiles R). length f.readers.items) files all, sum_by-cons (λ (o : OpenRead R). count_files o.tables.items) one opened)
