-- A fetch over an input in pieces: what is left to skip and to take goes from piece to piece.
use Rattle.std.specs.Prelude.{ℕ, ◌-◌, List, [], ◌∷◌, Option, length}
use Rattle.std.specs.Option.{option_map}
use Rattle.sub_types.specs.Stream.{Stream}
use Rattle.plan_denote.specs.Rows.{Row}
use Rattle.plan_denote.specs.Fetch.{fetched}

-- how many rows are still to be skipped after so many
abbrev pub offset_after : ℕ → ℕ → ℕ
offset_after offset rows = offset - rows

-- how many are still to be taken
abbrev pub count_after : ℕ → Option ℕ → ℕ → Option ℕ
count_after offset count rows = option_map (λ many. many - (rows - offset)) count

abbrev pub fetched_pieces : ℕ → Option ℕ → List (Stream Row) → List (Stream Row)
fetched_pieces offset count [] = []
fetched_pieces offset count (piece ∷ pieces) =
    fetched offset count piece ∷ fetched_pieces (offset_after offset (length piece.rows)) (count_after offset count (length piece.rows)) pieces
