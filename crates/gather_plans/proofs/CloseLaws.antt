-- The readers that are given back.
use Rattle.std.proofs.Common.{◌≡◌, ◌∙◌, ℕ, List, [], ◌∷◌, Option, length, map, refl, sym, ap, arith}
use Rattle.std.specs.List.{AllZip, sum_by}
use Rattle.std.proofs.lemmas.List.{length-map}
use Rattle.std.proofs.lemmas.List.Sums.{sum_by-cons}
use Rattle.plan_tables.specs.declared.open.OpenRead.{OpenRead}
use Rattle.plan_tables.specs.Open.{count_open}
use Rattle.open_blocks.specs.declared.files.ReadFiles.{ReadFiles}
use Rattle.open_blocks.specs.Files.{AreFilesOf, FilesSeen, count_readers, files_seen}
use Rattle.open_blocks.proofs.PartLaws.{all_counted}

module _ {R : Type 0} (bytes : R → Option (List ℕ)) where
  -- as many as are seen
  abbrev count_seen : List FilesSeen → ℕ
  count_seen all = sum_by (λ (one : FilesSeen). length one.bytes) all

  all_seen : (files : List (ReadFiles R)) → count_readers files ≡ count_seen (map (files_seen bytes) files)
  all_seen [] = refl
  all_seen (one ∷ files) =
      omega (
        arith,
        length-map one.readers.items bytes,
        all_seen files,
        sum_by-cons (λ (f : ReadFiles R). length f.readers.items) one files,
        sum_by-cons (λ (seen : FilesSeen). length seen.bytes) (files_seen bytes one) (map (files_seen bytes) files),
      )

  as_many : (old new : List (ReadFiles R)) → map (files_seen bytes) new ≡ map (files_seen bytes) old → count_readers new ≡ count_readers old
  as_many old new same = all_seen new ∙ ap count_seen same ∙ sym (all_seen old)

  -- all that were open are given back
  pub given_back : (opened : List (OpenRead R)) (old new : List (ReadFiles R)) → AllZip (AreFilesOf bytes) opened old → map (files_seen bytes) new ≡ map (files_seen bytes) old → count_readers new ≡ count_open opened
  given_back opened old new are same = as_many old new same ∙ all_counted bytes opened old are
