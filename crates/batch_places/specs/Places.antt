-- Rows of several batches by their places.
use Rattle.std.specs.Prelude.{ℕ, List, [], ◌∷◌, Bool, true, false, Option, Some, None, ◌≡◌, map, slice_get}
use Rattle.std.specs.List.{All, range_with_len}
use Rattle.sub_types.specs.declared.kind.Ty.{Ty}
use Rattle.sub_types.specs.declared.value.Value.{Value}
use Rattle.batch.specs.declared.batch.Batch.{Batch}
use Rattle.batch.specs.BatchRows.{types_of}
use Rattle.batch_places.specs.declared.places.Place.{Place}
use Rattle.batch_places.specs.BatchRow.{has_row, row_at}

-- a batch's row, if there is a batch
abbrev pub has_in : Option Batch → ℕ → Bool
has_in None row = false
has_in (Some batch) row = has_row batch row

abbrev pub row_in : Option Batch → ℕ → List Value
row_in None row = []
row_in (Some batch) row = row_at batch row

-- whether a row is at a place, and the row there
abbrev pub is_there : List Batch → Place → Bool
is_there runs place = has_in (slice_get runs place.run) place.row

abbrev pub row_there : List Batch → Place → List Value
row_there runs place = row_in (slice_get runs place.run) place.row

abbrev pub AreThere : List Batch → List Place → Type 0
AreThere runs places = All (λ place. is_there runs place ≡ true) places

-- the types of the first batch's columns
abbrev pub first_types : List Batch → List Ty
first_types [] = []
first_types (run ∷ runs) = types_of run

-- the places of so many rows of a run
abbrev pub places_in : ℕ → ℕ → List Place
places_in run rows = map (λ row. record { run = run; row = row }) (range_with_len 0 rows)
