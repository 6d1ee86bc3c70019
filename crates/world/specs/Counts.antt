-- Counts of faults, which stop at the counter's last value.
use Rattle.std.specs.Prelude.{◌≡◌, ℕ, ◌+◌, ◌-◌, ◌^◌, ◌≤◌, min, Result, Err, IsErrOf, OnErr}
use Rattle.world.specs.declared.error.FolderError.{FolderError}
use Rattle.world.specs.declared.error.FolderError.TheVariants.{Failed}

-- a sum of counts stops at 2^64 - 1
abbrev pub sum_of_counts : ℕ → ℕ → ℕ
sum_of_counts a b = min (a + b) (2 ^ 64 - 1)

-- the count is above what it was, or stands at its last value
abbrev pub Rose : ℕ → ℕ → Type 0
Rose before now = sum_of_counts before 1 ≤ now

-- the count never falls, and this error comes only where it rose
pub record HasCause {T E : Type 0} (error : E) (before now : ℕ) (result : Result T E) : Type 0 where
  pub never_falls : before ≤ now
  pub failed : IsErrOf result error → Rose before now

-- the count never falls, and an error comes only where it rose
pub record HasAnyCause {T E : Type 0} (before now : ℕ) (result : Result T E) : Type 0 where
  pub never_falls : before ≤ now
  pub failed : OnErr result (Rose before now)

-- the count is as before, unless a read or a write failed
abbrev pub IsStill : {T : Type 0} → ℕ → ℕ → Result T FolderError → Type 0
IsStill before now (Err Failed) = Unit {0}
IsStill before now _ = now ≡ before
