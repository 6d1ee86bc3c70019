-- The files that are open for the read relations of a plan.
use Rattle.std.proofs.Common.{◌≡◌, ◌∙◌, ℕ, ◌≤◌, ◌==◌, List, [], ◌∷◌, Bool, Option, Some, count_by, map, refl, sym, ap, ap₂, subst}
use Rattle.std.specs.List.{AllByRecursion, AllZip, flat_map, sum_by}
use Rattle.std.proofs.lemmas.List.Elements.{recursion_from_All}
use Rattle.std.proofs.lemmas.Simd.{map-map}
use Rattle.sub_types.specs.Stream.{Stream, glue}
use Rattle.plan_typed.specs.declared.sub.Holed.{Holed}
use Rattle.well_typed.specs.WellTyped.{IsWellTyped}
use Rattle.plan_denote.specs.Denote.{Tables}
use Rattle.plan_denote.specs.Rows.{Row}
use Rattle.plan_denote.specs.Subqueries.{denote_plan}
use Rattle.denote_typed.proofs.RowsLaws.{weakened}
use Rattle.plan_reads.specs.declared.reads.Origin.{Origin}
use Rattle.plan_reads.specs.declared.reads.Origin.TheVariants as origins
use Rattle.plan_reads.specs.declared.reads.PlanRead.{PlanRead}
use Rattle.plan_reads.specs.Reads.{reads_of}
use Rattle.table_open.specs.Files.{TableFile}
use Rattle.plan_tables.specs.declared.open.OpenRead.{OpenRead}
use Rattle.plan_tables.specs.Open.{open_seen, AllTold, AreTold}
use Rattle.plan_tables.specs.Tables.{Opened, blocks_of, files_in, stream_in, tables_of}
use Rattle.plan_tables.specs.Tables as counts
use Rattle.plan_laws.specs.Opened.{HasOwnTable}
use Rattle.plan_laws.proofs.NumberLaws.{reads_with, one_read}
use Rattle.plan_laws.proofs.FoundLaws.{with_number, count_by-map, all_found}
use Rattle.plan_laws.proofs.OpenedLaws.{own_tables}
use Rattle.agree_laws.specs.Agree.{Agrees, types_in}
use Rattle.agree_laws.proofs.AgreeLaws.{same_plan}
use Rattle.agree_laws.proofs.TypeLaws.{each_of_types}
use Rattle.open_blocks.specs.declared.files.ReadFiles.{ReadFiles}
use Rattle.open_blocks.specs.Files.{AllTell, AreFilesOf, FilesSeen, files_at, files_seen, tables_in}
use Rattle.open_blocks.specs.Files as open_files
use Rattle.plan_rounds.specs.Inputs.{TellsRows, blocks_at, AreTablesOf, IsOpenRead, batches_of, input_read}
use Rattle.crew_tables.specs.Receipts as crew
use Rattle.plan_rounds.specs.Inputs as flows
use Rattle.run_words.specs.declared.status.PipeReceipt.{PipeReceipt}
use Rattle.gather_plans.specs.Over.{AreRowsOver, input_of}

-- the files with a number, and the rows of blocks
abbrev number_in : FilesSeen → ℕ
number_in one = one.relation

rows_are : (seen : FilesSeen) (one : Opened) → seen.relation ≡ one.read.relation → tables_in seen ≡ files_in one → open_files.stream_in seen ≡ stream_in one
unfolding open_files.stream_in stream_in
rows_are seen one same tables = λ i. glue (flat_map (blocks_of (same i)) (tables i))

-- in how many batches it is read
counts_are : (files : List FilesSeen) (number : ℕ) (origin : Origin) (seen : FilesSeen) (own : List TableFile) → files_at number files ≡ Some seen → tables_in seen ≡ own → batches_of files number origin ≡ counts.batches_of origin own
counts_are files number (origins.Named names) seen own found same = ap blocks_at found ∙ ap (sum_by (λ (file : TableFile). file.blocks)) same
counts_are files number (origins.Rows count) seen own found same = refl

-- a receipt by another name
receipt_as : (workers : ℕ) (input : ℕ × ℕ) (receipt : PipeReceipt) → flows.IsReceiptOf workers input receipt → crew.IsReceiptOf workers input receipt
receipt_as workers input receipt is = record { relation = is.relation; batches = is.batches; seats = is.seats; balanced = is.balanced }

receipts_as : (workers : ℕ) (inputs : List (ℕ × ℕ)) (receipts : List PipeReceipt) → AllZip (flows.IsReceiptOf workers) inputs receipts → AllZip (crew.IsReceiptOf workers) inputs receipts
receipts_as workers [] [] are = tt
receipts_as workers [] (receipt ∷ receipts) are = absurd are
receipts_as workers (input ∷ inputs) [] are = absurd are
receipts_as workers (input ∷ inputs) (receipt ∷ receipts) are = (receipt_as workers input receipt are.0, receipts_as workers inputs receipts are.1)

module _ {R : Type 0} (bytes : R → Option (List ℕ)) where
  abbrev reads : List (OpenRead R) → List PlanRead
  reads opened = map (λ (one : OpenRead R). one.read) opened

  abbrev seen_all : List (ReadFiles R) → List FilesSeen
  seen_all files = map (files_seen bytes) files

  open_each : (opened : List (OpenRead R)) (files : List (ReadFiles R)) → AllZip (AreFilesOf bytes) opened files → AllZip IsOpenRead (reads opened) (seen_all files)
  open_each [] [] are = tt
  open_each [] (one ∷ files) are = absurd are
  open_each (one ∷ opened) [] are = absurd are
  open_each (one ∷ opened) (own ∷ files) are = (record { relation = are.0.relation; open_for = are.0.ready }, open_each opened files are.1)

  same_numbers : (opened : List (OpenRead R)) (files : List (ReadFiles R)) → AllZip (AreFilesOf bytes) opened files → map number_in (seen_all files) ≡ map (λ (read : PlanRead). read.relation) (reads opened)
  same_numbers [] [] are = refl
  same_numbers [] (one ∷ files) are = absurd are
  same_numbers (one ∷ opened) [] are = absurd are
  same_numbers (one ∷ opened) (own ∷ files) are = ap₂ (λ number numbers. number ∷ numbers) are.0.relation (same_numbers opened files are.1)

  -- files of a list, each found by its number
  abbrev AreFound : List FilesSeen → List (ReadFiles R) → Type 0
  AreFound all files = AllByRecursion (λ (one : FilesSeen). files_at one.relation all ≡ Some one) (seen_all files)

  inputs_same : (all : List FilesSeen) (opened : List (OpenRead R)) (files : List (ReadFiles R)) → AllZip (AreFilesOf bytes) opened files → AreFound all files
      → map (input_read all) (reads opened) ≡ map input_of (map (open_seen bytes) opened)
  inputs_same all [] [] are found = refl
  inputs_same all [] (one ∷ files) are found = absurd are
  inputs_same all (one ∷ opened) [] are found = absurd are
  inputs_same all (one ∷ opened) (own ∷ files) are found =
      let number = one.read.relation in
      let here : files_at number all ≡ Some (files_seen bytes own) = subst (λ (n : ℕ). files_at n all ≡ Some (files_seen bytes own)) are.0.relation found.0 in
      ap₂ (λ count inputs. (number, count) ∷ inputs) (counts_are all number one.read.origin (files_seen bytes own) (files_in (open_seen bytes one)) here are.0.tables) (inputs_same all opened files are.1 found.1)

  -- tables that are those of the files, where all are told
  tables_same : (all : List FilesSeen) (tables others : Tables) (opened : List (OpenRead R)) (files : List (ReadFiles R)) → AllZip (AreFilesOf bytes) opened files → AreFound all files → AreTablesOf all tables
      → AllByRecursion (λ (one : OpenRead R). AreTold bytes one.tables.items) opened → AllByRecursion (λ (one : Opened). others one.read.relation ≡ stream_in one) (map (open_seen bytes) opened) → AllByRecursion (Agrees tables others) (reads opened)
  tables_same all tables others [] [] are found own told rows = tt
  tables_same all tables others [] (one ∷ files) are found own told rows = absurd are
  tables_same all tables others (one ∷ opened) [] are found own told rows = absurd are
  tables_same all tables others (one ∷ opened) (mine ∷ files) are found own told rows =
      let number = one.read.relation in
      let seen = files_seen bytes mine in
      let here : files_at number all ≡ Some seen = subst (λ (n : ℕ). files_at n all ≡ Some seen) are.0.relation found.0 in
      let tells : AllTell seen.bytes → tables number ≡ open_files.stream_in seen = subst (λ (at : Option FilesSeen). TellsRows at (tables number)) here (own number) in (
        tells (are.0.told told.0) ∙ rows_are seen (open_seen bytes one) are.0.relation are.0.tables ∙ sym rows.0,
        tables_same all tables others opened files are.1 found.1 own told.1 rows.1,
      )

  module _ (plan : Holed) (typed : IsWellTyped plan) (opened : List (OpenRead R)) (are_reads : reads opened ≡ reads_of plan) (files : List (ReadFiles R)) (are : AllZip (AreFilesOf bytes) opened files) where
    pub all_open : AllZip IsOpenRead (reads_of plan) (seen_all files)
    all_open = subst (λ (own : List PlanRead). AllZip IsOpenRead own (seen_all files)) are_reads (open_each opened files are)

    -- no other files have the number
    as_many : (n : ℕ) → with_number number_in n (seen_all files) ≤ 1
    as_many n =
        let is_it : ℕ → Bool = λ one. one == n in
        let same : with_number number_in n (seen_all files) ≡ reads_with n (reads opened) =
        sym (count_by-map is_it number_in (seen_all files)) ∙ ap (count_by is_it) (same_numbers opened files are) ∙ count_by-map is_it (λ (read : PlanRead). read.relation) (reads opened) in
        subst (λ (count : ℕ). count ≤ 1) (sym (same ∙ ap (reads_with n) are_reads)) (one_read n plan typed.numbers)

    all_there : AreFound (seen_all files) files
    all_there = all_found number_in (λ (one : FilesSeen). Some one) (λ all number. files_at number all) (λ first rest number. refl) (seen_all files) as_many

    pub inputs_are : (workers : ℕ) (receipts : List PipeReceipt) → AllZip (flows.IsReceiptOf workers) (map (input_read (seen_all files)) (reads_of plan)) receipts
        → AllZip (crew.IsReceiptOf workers) (map input_of (map (open_seen bytes) opened)) receipts
    inputs_are workers receipts zip =
        receipts_as workers (map input_of (map (open_seen bytes) opened)) receipts
        (subst (λ (inputs : List (ℕ × ℕ)). AllZip (flows.IsReceiptOf workers) inputs receipts) (ap (map (input_read (seen_all files))) (sym are_reads) ∙ inputs_same (seen_all files) opened files are all_there) zip)

    -- the rows are those over the tables of the files
    pub rows_over : (rows : Stream Row) (tables : Tables) → AreTablesOf (seen_all files) tables → rows ≡ denote_plan tables plan → AreRowsOver (AllTold bytes opened) (map (open_seen bytes) opened) plan rows
    rows_over rows tables own is =
        let all = map (open_seen bytes) opened in
        let others = tables_of all in
        let seen_reads : map (λ (one : Opened). one.read) all ≡ reads_of plan = map-map _ _ opened ∙ are_reads in
        let each : AllByRecursion (λ (one : Opened). others one.read.relation ≡ stream_in one) all =
        weakened (HasOwnTable all) (λ (one : Opened). others one.read.relation ≡ stream_in one) all (own_tables plan all typed seen_reads) (λ one has. has.rows) in
        record {
          tables = tables;
          denoted = is;
          over = λ told. is ∙ same_plan (types_in plan) tables others plan (each_of_types plan typed)
              (subst (AllByRecursion (Agrees tables others)) are_reads
              (tables_same (seen_all files) tables others opened files are all_there own (recursion_from_All (λ (one : OpenRead R). AreTold bytes one.tables.items) opened told) each));
        }
