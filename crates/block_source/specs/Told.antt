-- What readers tell of their reads.
use Rattle.std.specs.Prelude.{◌≡◌, ℕ, ◌+◌, List, sum_by, Option, Some, None, slice_index_or}
use Rattle.std.specs.List.{flat_map}
use Rattle.world.specs.Reads.{Reads}

-- the reads of the file at this place, where they are told
abbrev pub told_of : List (Option Reads) → ℕ → Option Reads
told_of reads file = slice_index_or reads file None

-- what is read of a file for a number comes first
module _ (reading : ℕ → ℕ → Reads) where
  -- of each file what is told was read for these numbers
  abbrev pub AreReadBy : List (Option Reads) → List ℕ → Type 0
  AreReadBy reads numbers = (file : ℕ) (told : Reads) → told_of reads file ≡ Some told → told ≡ flat_map (reading file) numbers

  -- the reads for some lists of numbers, weighed
  abbrev pub weigh_all : ((ℕ × ℕ) → ℕ) → ℕ → List (List ℕ) → ℕ
  weigh_all f file lists = sum_by (λ numbers. sum_by (λ n. sum_by f (reading file n)) numbers) lists

  -- each file's reader gained the reads for all these lists of numbers but those that are left
  abbrev pub AreGained : List (Option Reads) → List (Option Reads) → List (List ℕ) → List (List ℕ) → Type 0
  AreGained start now left all = (file : ℕ) (told : Reads) → told_of now file ≡ Some told
      → (before : Reads) × (told_of start file ≡ Some before) × ((f : (ℕ × ℕ) → ℕ) → sum_by f told + weigh_all f file left ≡ sum_by f before + weigh_all f file all)
