-- The law of rows that are cut otherwise into files and record batches.
use Rattle.std.specs.Prelude.{◌≡◌, ℕ, List, Some, Result, Ok, Err}
use Rattle.std.specs.FinMap.{get}
use Rattle.world.specs.Files.{Files}
use Rattle.plan_typed.specs.declared.sub.Holed.{Holed}
use Rattle.plan_reads.specs.Reads.{reads_of}
use Rattle.plan_tables.specs.Tables.{Opened, open_reads, tables_of}
use Rattle.run_words.specs.Words.{Reading, reading_of}
use Rattle.run_words.specs.declared.status.Status.{Status}
use Rattle.run_accepted.specs.Done.{Done}
use Rattle.run_top.specs.Answer.{answer, accepted_in}

-- these words run the accepted plan of these bytes, and these are its read relations with their files
pub record RunsOver (words : List (List ℕ)) (files : Files) (bytes : List ℕ) (plan : Holed) (opened : List Opened) : Type 0 where
  pub reading : Reading
  pub words_are : reading_of words ≡ Some reading
  pub plan_is : get files reading.plan ≡ Some bytes
  pub accepted : accepted_in bytes ≡ Ok plan
  pub tables_are : open_reads files reading.bindings (reads_of plan) ≡ Ok opened

-- the bytes of the out file, unless there is a refusal
abbrev pub file_in : Result Done Status → Result (List ℕ) Status
file_in (Ok done) = Ok done.file
file_in (Err refusal) = Err refusal

-- The same plan over tables of the same rows, and of the same bad blocks if any, gives the same out file, or the same refusal,
-- whatever the names of files, the number of workers, and the places where files and record batches end.
abbrev pub SameRowsSameFile : Type 0
SameRowsSameFile =
    (bytes : List ℕ) (plan : Holed) (a_words b_words : List (List ℕ)) (a_files b_files : Files) (a b : List Opened)
    → RunsOver a_words a_files bytes plan a → RunsOver b_words b_files bytes plan b
    → ((relation : ℕ) → tables_of a relation ≡ tables_of b relation)
    → file_in (answer a_words a_files) ≡ file_in (answer b_words b_files)
