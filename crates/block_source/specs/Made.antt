-- What workers make of the blocks of a table.
use Rattle.std.specs.Prelude.{◌≡◌, ℕ, List, [], Option}
use Rattle.world.specs.Counts.{Rose}
use Rattle.block_source.specs.declared.block.BlockRead.{BlockRead}
use Rattle.block_source.specs.declared.block.BlockRead.TheVariants as reads
use Rattle.block_source.specs.declared.file.BlockFile.{BlockFile}
use Rattle.block_source.specs.Seen.{GivesNumber}

-- a worker that has read and made nothing: the files that it reads, their bytes where they are told, the numbers that it read, its readers' faults and what it made
pub record IsUnused {O : Type 0} (files : List BlockFile) (bytes : List (Option (List ℕ))) (own_files : List BlockFile) (own_bytes : List (Option (List ℕ))) (loaded : List ℕ) (faults : ℕ) (outs : List O) : Type 0 where
  pub files_are : own_files ≡ files
  pub bytes_are : own_bytes ≡ bytes
  pub none_loaded : loaded ≡ []
  pub no_faults : faults ≡ 0
  pub none_made : outs ≡ []

-- what is made is made of what reading gave for the number, and a read failed only where the count of faults rose
pub record IsMadeOf {M : Type 0} (makes : ℕ → BlockRead → M → Type 0) (files : List BlockFile) (bytes : List (Option (List ℕ))) (before now : ℕ) (number : ℕ) (made : M) : Type 0 where
  pub given : BlockRead
  pub gives : GivesNumber files bytes number given
  pub failed : given ≡ reads.Failed → Rose before now
  pub made_of : makes number given made
