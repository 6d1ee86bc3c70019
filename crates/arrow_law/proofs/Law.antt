-- The table of a written file is what was written.
use Rattle.std.proofs.Common.{◌≡◌, ◌∙◌, ℕ, ◌+◌, ◌^◌, ◌<◌, ◌≤◌, List, [], ◌++◌, false, Some, Ok, length, get_or, map, take, replicate, refl, sym, ap, arith, zero-add, append_assoc, length-append}
use Rattle.std.specs.List.{range_with_len, flat_map, list_any, All, slice_get}
use Rattle.std.specs.Option.{option_map}
use Rattle.std.specs.Result.{result_ok}
use Rattle.std.proofs.lemmas.List.{length-map, get_or_default}
use Rattle.std.proofs.lemmas.List.Elements.{All-map}
use Rattle.std.proofs.lemmas.Option.{slice_get-map, slice_get-get_or}
use Rattle.byteorder.specs.Endian.{little_bytes}
use Rattle.fb_bytes.specs.Layout.{buffer_of}
use Rattle.sub_types.specs.declared.kind.Ty.{Ty}
use Rattle.sub_types.specs.declared.value.Value.{Value}
use Rattle.arrow_meta.specs.declared.meta.Block.{Block}
use Rattle.arrow_meta.specs.Messages.{Place, footer_laid}
use Rattle.arrow_meta.specs.Meta.{place_of}
use Rattle.arrow_meta.specs.File.{magic, batches, file_head, file_tail, file_of, footer_of, batch_message, batch_metadata, batch_body, blocks_from}
use Rattle.sub_types.specs.OptionSteps.{all_of}
use Rattle.arrow_meta.specs.Footer.{footer_in}
use Rattle.arrow_meta.specs.Written.{IsBlock, columns_of, written_footer}
use Rattle.arrow_meta.specs.Head.{Head, refused, footer_place, footer_at, record_at, is_compressed, has_compression, head_with, head_of, block_body}
use Rattle.arrow_meta.specs.Table.{Opened, opened, wanted_in, rows_with, table_of, CanBeWritten, TableReadsBack}
use Rattle.arrow_meta.proofs.FooterBack.{footer_back}
use Rattle.arrow_law.proofs.Options.{all_of_places}
use Rattle.arrow_law.proofs.RowsBack.{batches_back, batches_short, batches_fit}
use Rattle.arrow_law.proofs.BatchBack.{wanted_from, meta_of, rows_back}
use Rattle.arrow_law.proofs.Sizes.{metadata_short, footer_long}
use Rattle.arrow_law.proofs.Ends.{ending, footer_place_back, footer_bytes}
use Rattle.arrow_law.proofs.BlocksBack.{laws, block_of, places_back, StandsIn, stands_at, length-blocks_from, record_read, body_read, block_fits}
use Rattle.arrow_law.proofs.HeadBack.{length-columns_of, names_back, types_back, shapes_back, no_dictionaries, wanted_back, list_any_none}

-- the messages of the batches
abbrev messages : List Ty → List (List Value) → List ℕ
messages types rows = flat_map (batch_message types) (batches rows)

-- what stands before the footer
abbrev front_of : List (List ℕ) → List Ty → List (List Value) → List ℕ
front_of names types rows = (file_head names types ++ messages types rows) ++ (replicate 4 255 ++ replicate 4 0)

-- where the footer stands
abbrev footer_start : List (List ℕ) → List Ty → List (List Value) → ℕ
footer_start names types rows = length (front_of names types rows)

-- where the blocks stand
abbrev places_of : List (List ℕ) → List Ty → List (List Value) → List Place
places_of names types rows = blocks_from (length (file_head names types)) types (batches rows)

abbrev blocks_of : List (List ℕ) → List Ty → List (List Value) → List Block
blocks_of names types rows = map block_of (places_of names types rows)

file_ends : (names : List (List ℕ)) (types : List Ty) (rows : List (List Value)) → file_of names types rows ≡ ending (front_of names types rows) (footer_of names types rows)
unfolding file_of file_tail
file_ends names types rows =
    let begin : List ℕ = file_head names types ++ messages types rows in
    let mark : List ℕ = replicate 4 255 ++ replicate 4 0 in
    let footer : List ℕ = footer_of names types rows in
    let size : List ℕ = little_bytes 4 (length footer) in
    ap (λ tail. begin ++ tail) (append_assoc (mark ++ footer) size magic ∙ append_assoc mark footer (size ++ magic))
    ∙ sym (append_assoc begin mark (footer ++ (size ++ magic)))

file_parts : (names : List (List ℕ)) (types : List Ty) (rows : List (List Value)) → file_of names types rows ≡ file_head names types ++ (messages types rows ++ file_tail names types rows)
unfolding file_of
file_parts names types rows = append_assoc (file_head names types) (messages types rows) (file_tail names types rows)

file_begins : (names : List (List ℕ)) (types : List Ty) (rows : List (List Value)) → take 6 (file_of names types rows) ≡ magic
unfolding file_of file_head
file_begins names types rows = refl

-- the tail begins before the footer
tail_room : (names : List (List ℕ)) (types : List Ty) (rows : List (List Value)) → length (file_of names types rows) ≤ footer_start names types rows + length (file_tail names types rows)
unfolding file_of
tail_room names types rows =
    let begin : List ℕ = file_head names types ++ messages types rows in
    let all = length-append begin (file_tail names types rows) in
    let front = length-append begin (replicate 4 255 ++ replicate 4 0) in omega (arith, all, front)

-- each batch stands in the file
batch_stands : (names : List (List ℕ)) (types : List Ty) (rows : List (List Value)) (k : ℕ) (p : Place) (d : List (List Value)) → k < length (batches rows)
    → StandsIn (file_of names types rows) types (get_or (batches rows) k d) (get_or (places_of names types rows) k p) (length (file_tail names types rows))
batch_stands names types rows k p d below =
    stands_at types (file_head names types) (batches rows) (file_tail names types rows) (file_of names types rows) (length (file_head names types)) k p d refl (file_parts names types rows) below

-- how many blocks there are
blocks_count : (names : List (List ℕ)) (types : List Ty) (rows : List (List Value)) → length (places_of names types rows) ≡ length (batches rows)
blocks_count names types rows = length-blocks_from (length (file_head names types)) types (batches rows)

-- the metadata of a batch is short
short_metadata : (names : List (List ℕ)) (types : List Ty) (rows : List (List Value)) → CanBeWritten names types rows → (batch : List (List Value)) → length (batch_metadata types batch) + 8 < 2 ^ 31
unfolding footer_of
short_metadata names types rows can batch = metadata_short names types (places_of names types rows) batch can.same_count can.short_footer

-- each block fits its bytes
all_blocks_fit : (names : List (List ℕ)) (types : List Ty) (rows : List (List Value)) → CanBeWritten names types rows → All IsBlock (blocks_of names types rows)
all_blocks_fit names types rows can =
    All-map IsBlock block_of (places_of names types rows) (λ k p below.
    let within : k < length (batches rows) = omega (arith, below, blocks_count names types rows) in
    block_fits (file_of names types rows) types (get_or (batches rows) k []) (get_or (places_of names types rows) k p) (length (file_tail names types rows))
    (batch_stands names types rows k p [] within) can.short_file (short_metadata names types rows can (get_or (batches rows) k [])))

-- what a block says
record_there : (names : List (List ℕ)) (types : List Ty) (rows : List (List Value)) → CanBeWritten names types rows → (k : ℕ) (p : Place) → k < length (batches rows)
    → record_at (file_of names types rows) (footer_start names types rows) (block_of (get_or (places_of names types rows) k p)) ≡ Ok (meta_of types (get_or (batches rows) k []))
record_there names types rows can k p below =
    let batch : List (List Value) = get_or (batches rows) k [] in
    let small = short_metadata names types rows can batch in
    record_read (file_of names types rows) types batch (get_or (places_of names types rows) k p) (length (file_tail names types rows)) (footer_start names types rows)
    (batch_stands names types rows k p [] below) (tail_room names types rows) (batches_short rows k [] below) can.short_file (omega (arith, small))

-- the footer of the file
footer_read : (names : List (List ℕ)) (types : List Ty) (rows : List (List Value)) → CanBeWritten names types rows
    → footer_in (footer_of names types rows) ≡ Ok (written_footer names types (blocks_of names types rows))
unfolding footer_of
footer_read names types rows can =
    let places : List Place = places_of names types rows in
    let blocks : List Block = blocks_of names types rows in
    let same : map place_of blocks ≡ places = places_back places in
    let small : length (buffer_of (footer_laid names types (map place_of blocks))) < 2 ^ 31 = omega (arith, ap (λ ps. length (buffer_of (footer_laid names types ps))) same, can.short_footer) in
    ap (λ ps. footer_in (buffer_of (footer_laid names types ps))) (sym same)
    ∙ footer_back laws names types blocks can.same_count can.kinds (all_blocks_fit names types rows can) small

place_there : (names : List (List ℕ)) (types : List Ty) (rows : List (List Value)) → CanBeWritten names types rows → footer_place (file_of names types rows) ≡ Ok (footer_start names types rows)
unfolding footer_of
place_there names types rows can =
    let front = length-append (file_head names types ++ messages types rows) (replicate 4 255 ++ replicate 4 0) in
    let some = footer_long names types (places_of names types rows) can.same_count in
    footer_place_back (front_of names types rows) (footer_of names types rows) (file_of names types rows) (file_ends names types rows) (file_begins names types rows)
    (omega (arith, front)) (omega (arith, some)) can.short_footer

footer_there : (names : List (List ℕ)) (types : List Ty) (rows : List (List Value)) → CanBeWritten names types rows
    → footer_at (file_of names types rows) (footer_start names types rows) ≡ Ok (written_footer names types (blocks_of names types rows))
unfolding footer_at
footer_there names types rows can =
    let found = footer_bytes (front_of names types rows) (footer_of names types rows) (file_of names types rows) (file_ends names types rows) in
    ap (λ bytes. refused (footer_start names types rows) (footer_in bytes)) found
    ∙ ap (refused (footer_start names types rows)) (footer_read names types rows can)

-- no block is compressed
none_compressed : (names : List (List ℕ)) (types : List Ty) (rows : List (List Value)) → CanBeWritten names types rows
    → has_compression (file_of names types rows) (footer_start names types rows) (written_footer names types (blocks_of names types rows)) ≡ false
unfolding has_compression
none_compressed names types rows can =
    let bytes : List ℕ = file_of names types rows in
    let place : ℕ = footer_start names types rows in
    let test = λ (block : Block). is_compressed (record_at bytes place block) in
    let none : list_any test (blocks_of names types rows) ≡ false =
    list_any_none test (blocks_of names types rows) (All-map (λ block. test block ≡ false) block_of (places_of names types rows) (λ k p below.
    let within : k < length (batches rows) = omega (arith, below, blocks_count names types rows) in
    ap is_compressed (record_there names types rows can k p within))) in
    rw none refl

-- the head of the file
abbrev written_head : List (List ℕ) → List Ty → List (List Value) → Head
written_head names types rows = record {
  columns = columns_of names types;
  blocks = blocks_of names types rows;
  metas = map (λ block. result_ok (record_at (file_of names types rows) (footer_start names types rows) block)) (blocks_of names types rows);
  dictionaries = [];
}

abbrev written_opened : List (List ℕ) → List Ty → List (List Value) → Opened
written_opened names types rows = record { footer = footer_start names types rows; head = written_head names types rows }

head_there : (names : List (List ℕ)) (types : List Ty) (rows : List (List Value))
    → head_with (file_of names types rows) (footer_start names types rows) (written_footer names types (blocks_of names types rows)) ≡ written_head names types rows
unfolding head_with
head_there names types rows =
    ap (λ dictionaries. record {
      columns = columns_of names types;
      blocks = blocks_of names types rows;
      metas = map (λ block. result_ok (record_at (file_of names types rows) (footer_start names types rows) block)) (blocks_of names types rows);
      dictionaries = dictionaries;
    }) (no_dictionaries [] 0 names types)

opened_there : (names : List (List ℕ)) (types : List Ty) (rows : List (List Value)) → CanBeWritten names types rows → opened (file_of names types rows) ≡ Some (written_opened names types rows)
unfolding opened head_of
opened_there names types rows can =
    rw (place_there names types rows can, footer_there names types rows can, none_compressed names types rows can, head_there names types rows) refl

-- all columns are wanted
wanted_there : (names : List (List ℕ)) (types : List Ty) (rows : List (List Value)) → length names ≡ length types
    → wanted_in (written_head names types rows) (range_with_len 0 (length (columns_of names types))) ≡ wanted_from 0 types
unfolding wanted_in
wanted_there names types rows same =
    ap (λ n. wanted_in (written_head names types rows) (range_with_len 0 n)) (length-columns_of names types same)
    ∙ wanted_back [] names types (columns_of names types) 0 same refl refl

-- the rows of a block
rows_there : (names : List (List ℕ)) (types : List Ty) (rows : List (List Value)) → CanBeWritten names types rows → (k : ℕ) → k < length (batches rows)
    → rows_with (file_of names types rows) (written_opened names types rows) k (range_with_len 0 (length (columns_of names types))) ≡ Some (get_or (batches rows) k [])
unfolding rows_with
rows_there names types rows can k below =
    let bytes : List ℕ = file_of names types rows in
    let start : ℕ = footer_start names types rows in
    let batch : List (List Value) = get_or (batches rows) k [] in
    let none : Place = record { offset = 0; meta_len = 0; body_len = 0 } in
    let place : Place = get_or (places_of names types rows) k none in
    let within : k < length (places_of names types rows) = omega (arith, below, blocks_count names types rows) in
    let block : slice_get (blocks_of names types rows) k ≡ Some (block_of place) =
    slice_get-map block_of (places_of names types rows) k ∙ ap (option_map block_of) (slice_get-get_or (places_of names types rows) k none within) in
    let read = λ (block : Block). result_ok (record_at bytes start block) in
    let meta : slice_get (map read (blocks_of names types rows)) k ≡ Some (Some (meta_of types batch)) =
    slice_get-map read (blocks_of names types rows) k ∙ ap (option_map read) block ∙ ap (λ r. Some (result_ok r)) (record_there names types rows can k none below) in
    let body : block_body bytes start (block_of place) ≡ batch_body types batch =
    body_read bytes types batch place (length (file_tail names types rows)) start (batch_stands names types rows k none [] below) (tail_room names types rows) in
    rw (block, meta, shapes_back names types can.same_count, body, wanted_there names types rows can.same_count)
    (rows_back types batch can.kinds (batches_fit types rows can.fitting k [] below) (batches_short rows k [] below))

-- the law
pub written_table : TableReadsBack
unfolding table_of
written_table names types rows can =
    let bytes : List ℕ = file_of names types rows in
    let file : Opened = written_opened names types rows in
    let read = λ (block : ℕ). rows_with bytes file block (range_with_len 0 (length (columns_of names types))) in
    let count : length (blocks_of names types rows) ≡ length (batches rows) = length-map (places_of names types rows) block_of ∙ blocks_count names types rows in
    let found : all_of (map read (range_with_len 0 (length (batches rows)))) ≡ Some (batches rows) =
    all_of_places read 0 (batches rows) (λ k d below. ap read (zero-add k) ∙ rows_there names types rows can k below ∙ ap (λ xs. Some xs) (get_or_default (batches rows) k [] d below)) in
    let all : all_of (map read (range_with_len 0 (length (blocks_of names types rows)))) ≡ Some (batches rows) = ap (λ n. all_of (map read (range_with_len 0 n))) count ∙ found in
    rw (opened_there names types rows can, types_back names types can.same_count, all, names_back names types can.same_count, batches_back rows) refl
