-- Rows evaluated in order, up to the first fault.
use Rattle.std.specs.Prelude.{ℕ, List, [], ◌∷◌, Result, Ok, Err}
use Rattle.sub_types.specs.declared.fault.FaultKind.{FaultKind}
use Rattle.kernels.specs.declared.selection.Stop.{Stop}
use Rattle.kernels.specs.declared.selection.Stop.TheVariants.{Never, At}

-- the values before the first fault, and that fault
pub record Until (X : Type 0) : Type 0 where
  pub values : List X
  pub stop : Stop

abbrev pub step : {X : Type 0} → ℕ → Result X FaultKind → Until X → Until X
step row (Ok value) rest = record { values = value ∷ rest.values; stop = rest.stop }
step row (Err kind) rest = record { values = []; stop = At row kind }

abbrev pub until : {X : Type 0} → (ℕ → Result X FaultKind) → List ℕ → Until X
until f [] = record { values = []; stop = Never }
until f (row ∷ rows) = step row (f row) (until f rows)
