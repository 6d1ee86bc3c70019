-- The streams of blocks are those of the files, where the files' bytes are told.
use Rattle.std.proofs.Common.{◌≡◌, ◌∙◌, ℕ, suc, ◌+◌, List, [], ◌∷◌, ◌++◌, Option, Some, None, IsSome, length, map, slice_get, slice_index_or, vec_len, refl, ap, subst, arith}
use Rattle.std.specs.List.{All, flat_map, range_with_len}
use Rattle.std.proofs.lemmas.List.Elements.{All-head, All-tail}
use Rattle.sub_types.specs.Stream.{Stream, glue}
use Rattle.plan_denote.specs.Rows.{Row}
use Rattle.arrow_meta.specs.Table.{rows_of}
use Rattle.block_source.specs.declared.file.BlockFile.{BlockFile}
use Rattle.block_source.specs.declared.file.BlockPlace.{BlockPlace}
use Rattle.block_source.specs.Places.{place_in, places_in, places_from, places_of, counts_of}
use Rattle.block_source.specs.Seen.{bytes_of}
use Rattle.table_rows.specs.Blocks.{block_stream, file_streams}
use Rattle.plan_tables.specs.Tables.{blocks_of}
use Rattle.table_round.specs.Below.{TableSteps}
use Rattle.table_round.specs.Streams.{AreBlocks}
use Rattle.open_blocks.specs.Files.{AllTell, stream_in, tables_with}

none_told : (A : Type 0) → IsSome {T = A} None → ⊥
none_told A some = absurd (cc)

module _ (steps : TableSteps) (bytes : List (Option (List ℕ))) where
  -- the blocks of two lists of places
  record Split (ps qs : List BlockPlace) (input : List (Stream Row)) : Type 0 where
    first : List (Stream Row)
    second : List (Stream Row)
    both : input ≡ first ++ second
    of_first : AreBlocks steps bytes ps first
    of_second : AreBlocks steps bytes qs second

  split : (ps qs : List BlockPlace) (input : List (Stream Row)) → AreBlocks steps bytes (ps ++ qs) input → Split ps qs input
  split [] qs input are = record { first = []; second = input; both = refl; of_first = tt; of_second = are }
  split (p ∷ ps) qs [] are = absurd are
  split (p ∷ ps) qs (piece ∷ input) are =
      let rest = split ps qs input are.1 in
      record { first = piece ∷ rest.first; second = rest.second; both = ap (λ more. piece ∷ more) rest.both; of_first = (are.0, rest.of_first); of_second = rest.of_second }

  -- the blocks of one file
  in_file : (k number : ℕ) (one : BlockFile) (told : List ℕ) → slice_get steps.table.now.files.items k ≡ Some one → bytes_of bytes k ≡ Some told → slice_index_or steps.numbers.now k 0 ≡ number
      → (blocks : List ℕ) (input : List (Stream Row)) → AreBlocks steps bytes (map (place_in k) blocks) input
      → input ≡ map (λ b. block_stream steps.relation number b (rows_of told b one.wanted.items)) blocks
  in_file k number one told is tells named [] [] are = refl
  in_file k number one told is tells named [] (piece ∷ input) are = absurd are
  in_file k number one told is tells named (b ∷ blocks) [] are = absurd are
  in_file k number one told is tells named (b ∷ blocks) (piece ∷ input) are =
      let here : piece ≡ block_stream steps.relation number b (rows_of told b one.wanted.items) =
      are.0 one is told tells ∙ ap (λ n. block_stream steps.relation n b (rows_of told b one.wanted.items)) named in
      ap (λ s. s ∷ input) here ∙ ap (λ more. block_stream steps.relation number b (rows_of told b one.wanted.items) ∷ more) (in_file k number one told is tells named blocks input are.1)

  -- the blocks of the files from one on
  from_files : (files : List BlockFile) (numbers : List ℕ) (all : List (Option (List ℕ))) (k : ℕ)
      → ((j : ℕ) → slice_get steps.table.now.files.items (k + j) ≡ slice_get files j)
      → ((j : ℕ) → slice_index_or steps.numbers.now (k + j) 0 ≡ slice_index_or numbers j 0)
      → ((j : ℕ) → bytes_of bytes (k + j) ≡ bytes_of all j)
      → length numbers ≡ length files → length all ≡ length files → All (λ (one : Option (List ℕ)). IsSome one) all
      → (input : List (Stream Row)) → AreBlocks steps bytes (places_from k (counts_of files)) input
      → input ≡ flat_map (blocks_of steps.relation) (tables_with files numbers all)
  unfolding file_streams
  from_files [] numbers all k at_file at_number at_bytes many lent told [] are = refl
  from_files [] numbers all k at_file at_number at_bytes many lent told (piece ∷ input) are = absurd are
  from_files (one ∷ files) [] all k at_file at_number at_bytes many lent told input are = absurd (omega (arith, many))
  from_files (one ∷ files) (number ∷ numbers) [] k at_file at_number at_bytes many lent told input are = absurd (omega (arith, lent))
  from_files (one ∷ files) (number ∷ numbers) (None ∷ all) k at_file at_number at_bytes many lent told input are =
      absurd (none_told (List ℕ) (All-head (λ (x : Option (List ℕ)). IsSome x) None all told))
  from_files (one ∷ files) (number ∷ numbers) (Some found ∷ all) k at_file at_number at_bytes many lent told input are =
      let S : Option (List ℕ) → Type 0 = λ x. IsSome x in
      let count = vec_len one.head.blocks in
      let parts = split (places_in k count) (places_from (k + 1) (counts_of files)) input are in
      let same : k ≡ k + 0 = omega arith in
      let is : slice_get steps.table.now.files.items k ≡ Some one = ap (slice_get steps.table.now.files.items) same ∙ at_file 0 in
      let named : slice_index_or steps.numbers.now k 0 ≡ number = ap (λ n. slice_index_or steps.numbers.now n 0) same ∙ at_number 0 in
      let tells : bytes_of bytes k ≡ Some found = ap (bytes_of bytes) same ∙ at_bytes 0 in
      let here = in_file k number one found is tells named (range_with_len 0 count) parts.first parts.of_first in
      let there = from_files files numbers all (k + 1)
      (λ j. let next : k + 1 + j ≡ k + suc j = omega arith in ap (slice_get steps.table.now.files.items) next ∙ at_file (suc j))
      (λ j. let next : k + 1 + j ≡ k + suc j = omega arith in ap (λ n. slice_index_or steps.numbers.now n 0) next ∙ at_number (suc j))
      (λ j. let next : k + 1 + j ≡ k + suc j = omega arith in ap (bytes_of bytes) next ∙ at_bytes (suc j))
      (omega (arith, many)) (omega (arith, lent)) (All-tail S (Some found) all told) parts.second parts.of_second in
      let streams : ℕ → List (Stream Row) = λ n. map (λ b. block_stream steps.relation number b (rows_of found b one.wanted.items)) (range_with_len 0 n) in
      let counted : count ≡ length one.head.blocks.items = one.head.blocks.ok.0 in
      let first : parts.first ≡ streams (length one.head.blocks.items) = here ∙ ap streams counted in
      parts.both ∙ ap (λ (front : List (Stream Row)). front ++ parts.second) first ∙ ap (λ (back : List (Stream Row)). streams (length one.head.blocks.items) ++ back) there

  -- the rows of all blocks are those of the files
  pub rows_told : (places : List BlockPlace) (input : List (Stream Row)) → places ≡ places_of steps.table.now.files.items
      → length steps.numbers.now ≡ length steps.table.now.files.items → length bytes ≡ length steps.table.now.files.items → AllTell bytes
      → AreBlocks steps bytes places input → glue input ≡ stream_in (record { relation = steps.relation; files = steps.table.now.files.items; numbers = steps.numbers.now; bytes = bytes })
  unfolding stream_in
  rows_told places input is many lent told are =
      ap glue
      (from_files steps.table.now.files.items steps.numbers.now bytes 0
      (λ j. let same : 0 + j ≡ j = omega arith in ap (slice_get steps.table.now.files.items) same)
      (λ j. let same : 0 + j ≡ j = omega arith in ap (λ n. slice_index_or steps.numbers.now n 0) same)
      (λ j. let same : 0 + j ≡ j = omega arith in ap (bytes_of bytes) same)
      many lent told input (subst (λ ps. AreBlocks steps bytes ps input) is are))
