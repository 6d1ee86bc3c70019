-- The parts of open files, and how many blocks they have.
use Rattle.std.proofs.Common.{◌≡◌, ◌∙◌, ℕ, ◌+◌, List, [], ◌∷◌, Option, length, map, vec_len, refl, sym, ap, ap₂, arith}
use Rattle.std.specs.Prelude.{unwrap_or}
use Rattle.std.specs.List.{range_with_len, sum_by}
use Rattle.std.proofs.lemmas.List.{length-append, length-map}
use Rattle.std.proofs.lemmas.List.FromFn.{length-range_with_len}
use Rattle.std.proofs.lemmas.List.Sums.{sum_by-cons}
use Rattle.sub_types.specs.declared.kind.Ty.{Ty}
use Rattle.table_open.specs.Files.{TableFile}
use Rattle.block_source.specs.declared.file.BlockFile.{BlockFile}
use Rattle.block_source.specs.Places.{place_in, places_in, places_from, counts_of}
use Rattle.open_blocks.specs.declared.files.ReadFiles.{ReadFiles}
use Rattle.open_blocks.specs.Files.{AreOpenFor, files_seen, tables_with}
use Rattle.read_rounds.specs.Told.{blocks_in, parts_seen}

module _ {R : Type 0} (bytes : R → Option (List ℕ)) (types : List Ty) (one : ReadFiles R) (open_for : AreOpenFor types (files_seen bytes one)) where
  pub open_numbers : (numbers : List ℕ) → numbers ≡ one.numbers.items → length numbers ≡ vec_len one.blocks.files
  open_numbers numbers same = ap length same ∙ open_for.numbered ∙ sym one.blocks.files.ok.0

  pub open_count : vec_len one.readers ≡ vec_len one.blocks.files
  open_count = one.readers.ok.0 ∙ sym (length-map one.readers.items bytes) ∙ open_for.lent ∙ sym one.blocks.files.ok.0

-- how many blocks the places of files have
many_places : (file blocks : ℕ) → length (places_in file blocks) ≡ blocks
many_places file blocks = length-map (range_with_len 0 blocks) (place_in file) ∙ length-range_with_len 0 blocks

abbrev table_of : BlockFile → ℕ → Option (List ℕ) → TableFile
table_of one number told = record { number = number; bytes = unwrap_or told []; blocks = length one.head.blocks.items; wanted = one.wanted.items }

places_counted : (files : List BlockFile) (numbers : List ℕ) (all : List (Option (List ℕ))) (from : ℕ) → length numbers ≡ length files → length all ≡ length files
    → length (places_from from (counts_of files)) ≡ sum_by (λ (file : TableFile). file.blocks) (tables_with files numbers all)
places_counted [] numbers all from many lent = refl
places_counted (one ∷ files) [] all from many lent = absurd (omega (arith, many))
places_counted (one ∷ files) (number ∷ numbers) [] from many lent = absurd (omega (arith, lent))
places_counted (one ∷ files) (number ∷ numbers) (told ∷ all) from many lent =
    length-append (places_in from (vec_len one.head.blocks)) (places_from (from + 1) (counts_of files))
    ∙ ap₂ (λ (a : ℕ) (b : ℕ). a + b) (many_places from (vec_len one.head.blocks) ∙ one.head.blocks.ok.0) (places_counted files numbers all (from + 1) (omega (arith, many)) (omega (arith, lent)))
    ∙ sym (sum_by-cons (λ (file : TableFile). file.blocks) (table_of one number told) (tables_with files numbers all))

pub blocks_counted : {R : Type 0} (bytes : R → Option (List ℕ)) (types : List Ty) (one : ReadFiles R) → AreOpenFor types (files_seen bytes one) → vec_len one.blocks.places ≡ blocks_in (files_seen bytes one)
blocks_counted bytes types one open_for =
    one.blocks.places.ok.0 ∙ ap length one.blocks.placed ∙ places_counted one.blocks.files.items one.numbers.items (map bytes one.readers.items) 0 open_for.numbered open_for.lent

-- the parts stay where what is told of the bytes does
pub parts_stay : (relation : ℕ) (files : List BlockFile) (numbers : List ℕ) (old new : List (Option (List ℕ))) → new ≡ old → parts_seen relation files numbers new ≡ parts_seen relation files numbers old
parts_stay relation files numbers old new same = ap (parts_seen relation files numbers) same
