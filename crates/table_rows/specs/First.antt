-- The first place with a fault.
use Rattle.std.specs.Prelude.{◌≡◌, ℕ, ◌<◌, Bool, true, false, Option, Some, None}
use Rattle.sub_types.specs.declared.fault.FaultKind.{FaultKind}
use Rattle.table_rows.specs.declared.first.RowFault.{RowFault}

-- so many rows have no fault before this one
pub record IsFirstAt (fault : ℕ → Option FaultKind) (rows : ℕ) (found : RowFault) : Type 0 where
  pub within : found.row < rows
  pub here : fault found.row ≡ Some found.kind
  pub none_before : (k : ℕ) → k < found.row → fault k ≡ None

-- the first fault of so many rows, or none
abbrev pub IsFirst : (ℕ → Option FaultKind) → ℕ → Option RowFault → Type 0
IsFirst fault rows None = (k : ℕ) → k < rows → fault k ≡ None
IsFirst fault rows (Some found) = IsFirstAt fault rows found

-- so many places pass before this one, which doesn't
pub record IsFirstPlaceAt (fails : ℕ → Bool) (len place : ℕ) : Type 0 where
  pub within : place < len
  pub here : fails place ≡ true
  pub none_before : (k : ℕ) → k < place → fails k ≡ false

-- the first of so many places that fails, or none
abbrev pub IsFirstPlace : (ℕ → Bool) → ℕ → Option ℕ → Type 0
IsFirstPlace fails len None = (k : ℕ) → k < len → fails k ≡ false
IsFirstPlace fails len (Some place) = IsFirstPlaceAt fails len place
