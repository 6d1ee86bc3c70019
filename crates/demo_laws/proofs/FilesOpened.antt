-- The demo's files, opened for the read relations of its plan.
use Rattle.std.proofs.Common.{◌≡◌, ◌∙◌, ℕ, ◌==◌, ◌≤◌, List, [], ◌∷◌, false, Some, Ok, length, refl, ap, append-nil, codes, tests, arith}
use Rattle.std.specs.FinMap.{get, insert, empty, get-insert}
use Rattle.std.specs.Cmp.Lexicographic.{nat_list_cmp_total}
use Rattle.std.specs.Str.{bytes_eq}
use Rattle.sub_types.specs.Stream.{rows_alone, glue}
use Rattle.sub_types.specs.declared.kind.Ty.{Ty}
use Rattle.sub_types.specs.declared.value.Value.{Value}
use Rattle.arrow_meta.specs.Table.{table_of}
use Rattle.arrow_law.proofs.Law.{written_table}
use Rattle.world.specs.Files.{Files}
use Rattle.plan_spell.specs.Spelled.{spelled}
use Rattle.plan_reads.specs.declared.reads.Origin.TheVariants as origins
use Rattle.table_open.specs.Words.{bindings_of, bound_file}
use Rattle.table_open.specs.Files.{TableFile, open_one, table_files}
use Rattle.table_rows.specs.Blocks.{file_streams}
use Rattle.plan_tables.specs.Tables.{Opened, open_read, open_reads, stream_in, tables_of}
use Rattle.gen_data.specs.Rows.{MAX_NUMBER, order_rows, line_rows}
use Rattle.gen_data.specs.Plan.{demo_tree, line_names, order_names}
use Rattle.gen_data.specs.Checked.{whole_type, text_type, line_types, order_types}
use Rattle.gen_data.specs.Files.{orders_file, lines_file, demo_files, demo_bindings}
use Rattle.gen_data.specs.Reads.{lines_read, orders_read}
use Rattle.gen_data.specs.Summary.{demo_tables}
use Rattle.demo_laws.proofs.FileFound.{Holds, holds, both_wanted, all_rows}
use Rattle.demo_laws.proofs.FileSizes.{small_can_be_written}
use Rattle.demo_laws.proofs.FileRows.{small_orders, small_lines}

-- the tables of the files
pub orders_table : (number : ℕ) → number ≤ MAX_NUMBER → table_of (orders_file number) ≡ Some (record { names = order_names; types = order_types; rows = order_rows number })
unfolding orders_file
orders_table number few = written_table order_names order_types (order_rows number) (small_can_be_written order_names order_types (order_rows number) (small_orders number few))

pub lines_table : (number : ℕ) → number ≤ MAX_NUMBER → table_of (lines_file number) ≡ Some (record { names = line_names; types = line_types; rows = line_rows number })
unfolding lines_file
lines_table number few = written_table line_names line_types (line_rows number) (small_can_be_written line_names line_types (line_rows number) (small_lines number few))

-- the files by their names
lines_there : (number : ℕ) → get (demo_files number) (codes "lines") ≡ Some (lines_file number)
unfolding demo_files
lines_there number =
    get-insert nat_list_cmp_total (insert (insert empty (codes "plan") (spelled demo_tree)) (codes "orders") (orders_file number)) (codes "lines") (lines_file number) (codes "lines")

orders_there : (number : ℕ) → get (demo_files number) (codes "orders") ≡ Some (orders_file number)
unfolding demo_files
orders_there number =
    get-insert nat_list_cmp_total (insert (insert empty (codes "plan") (spelled demo_tree)) (codes "orders") (orders_file number)) (codes "lines") (lines_file number) (codes "orders")
    ∙ get-insert nat_list_cmp_total (insert empty (codes "plan") (spelled demo_tree)) (codes "orders") (orders_file number) (codes "orders")

pub plan_there : (number : ℕ) → get (demo_files number) (codes "plan") ≡ Some (spelled demo_tree)
unfolding demo_files
plan_there number =
    get-insert nat_list_cmp_total (insert (insert empty (codes "plan") (spelled demo_tree)) (codes "orders") (orders_file number)) (codes "lines") (lines_file number) (codes "plan")
    ∙ get-insert nat_list_cmp_total (insert empty (codes "plan") (spelled demo_tree)) (codes "orders") (orders_file number) (codes "plan")
    ∙ get-insert nat_list_cmp_total empty (codes "plan") (spelled demo_tree) (codes "plan")

-- each table has one binding
lines_bound : bindings_of (codes "lines") demo_bindings ≡ (2, codes "lines") ∷ []
unfolding bindings_of bound_file
lines_bound = refl

orders_bound : bindings_of (codes "orders") demo_bindings ≡ (1, codes "orders") ∷ []
unfolding bindings_of bound_file
orders_bound = refl

-- What a file that holds a table of two columns is opened as, where the table has this one binding.
module _ (number : ℕ) (bytes : List ℕ) (a b : List ℕ) (s t : Ty) (rows : List (List Value)) (h : Holds bytes (record { names = a ∷ b ∷ []; types = s ∷ t ∷ []; rows = rows })) where
  abbrev opened_file : TableFile
  opened_file = record { number = number; bytes = bytes; blocks = length h.file.head.blocks; wanted = 0 ∷ 1 ∷ [] }

  one_opened : (files : Files) (relation : ℕ) (file : List ℕ) → get files file ≡ Some bytes → bytes_eq a b ≡ false
      → open_one files relation (a ∷ b ∷ []) (s ∷ t ∷ []) (number, file) ≡ Ok opened_file
  unfolding open_one
  one_opened files relation file there apart = rw (there, both_wanted bytes relation a b s t rows h apart) refl

  table_opened : (files : Files) (relation : ℕ) (words : List (List ℕ)) (name file : List ℕ) → bindings_of name words ≡ (number, file) ∷ [] → get files file ≡ Some bytes → bytes_eq a b ≡ false
      → table_files files words name relation (a ∷ b ∷ []) (s ∷ t ∷ []) ≡ Ok (opened_file ∷ [])
  unfolding table_files
  table_opened files relation words name file bound there apart = rw (bound, one_opened files relation file there apart) refl

  abbrev opened_read : ℕ → List ℕ → Opened
  opened_read relation name = record {
    read = record { relation = relation; origin = origins.Named (name ∷ []); names = a ∷ b ∷ []; types = s ∷ t ∷ [] };
    tables = (opened_file ∷ []) ∷ [];
  }

  read_opened : (files : Files) (relation : ℕ) (words : List (List ℕ)) (name file : List ℕ) → bindings_of name words ≡ (number, file) ∷ [] → get files file ≡ Some bytes → bytes_eq a b ≡ false
      → open_read files words (opened_read relation name).read ≡ Ok (opened_read relation name)
  unfolding open_read
  read_opened files relation words name file bound there apart = rw (table_opened files relation words name file bound there apart) refl

  opened_rows : (relation : ℕ) (name : List ℕ) → stream_in (opened_read relation name) ≡ rows_alone rows
  unfolding stream_in
  opened_rows relation name =
      ap glue (append-nil (file_streams relation number bytes (length h.file.head.blocks) (0 ∷ 1 ∷ []))) ∙ all_rows bytes relation number a b s t rows h

-- Both read relations are opened, and have their tables.
abbrev pub Opens : ℕ → Type 0
Opens number =
    (opened : List Opened) × (open_reads (demo_files number) demo_bindings (lines_read ∷ orders_read ∷ []) ≡ Ok opened) × ((relation : ℕ) → tables_of opened relation ≡ demo_tables number relation)

-- equal numbers, either way round
same_test : (m n : ℕ) → (m == n) ≡ (n == m)
same_test m n = grind (arith, tests)

both_opened : (number : ℕ) → Holds (lines_file number) (record { names = line_names; types = line_types; rows = line_rows number })
    → Holds (orders_file number) (record { names = order_names; types = order_types; rows = order_rows number }) → Opens number
unfolding open_reads
both_opened number lines orders =
    let first : Opened = opened_read 2 (lines_file number) (codes "oid") (codes "qty") whole_type whole_type (line_rows number) lines 3 (codes "lines") in
    let second : Opened = opened_read 1 (orders_file number) (codes "id") (codes "region") whole_type text_type (order_rows number) orders 4 (codes "orders") in
    let one : open_read (demo_files number) demo_bindings lines_read ≡ Ok first =
    read_opened 2 (lines_file number) (codes "oid") (codes "qty") whole_type whole_type (line_rows number) lines (demo_files number) 3 demo_bindings (codes "lines") (codes "lines") lines_bound (lines_there number) refl in
    let two : open_read (demo_files number) demo_bindings orders_read ≡ Ok second =
    read_opened 1 (orders_file number) (codes "id") (codes "region") whole_type text_type (order_rows number) orders (demo_files number) 4 demo_bindings (codes "orders") (codes "orders") orders_bound (orders_there number) refl in
    let line_stream : stream_in first ≡ rows_alone (line_rows number) = opened_rows 2 (lines_file number) (codes "oid") (codes "qty") whole_type whole_type (line_rows number) lines 3 (codes "lines") in
    let order_stream : stream_in second ≡ rows_alone (order_rows number) = opened_rows 1 (orders_file number) (codes "id") (codes "region") whole_type text_type (order_rows number) orders 4 (codes "orders") in (
      first ∷ second ∷ [],
      rw (one, two) refl,
      λ relation. rw (line_stream, order_stream, same_test 3 relation, same_test 4 relation) refl,
    )

pub opens : (number : ℕ) → number ≤ MAX_NUMBER → Opens number
opens number few =
    both_opened number
    (holds (lines_file number) (record { names = line_names; types = line_types; rows = line_rows number }) (lines_table number few))
    (holds (orders_file number) (record { names = order_names; types = order_types; rows = order_rows number }) (orders_table number few))
