-- Rows over columns: a row has the value of each column at its place.
use Rattle.std.specs.Prelude.{ℕ, List, map, slice_index_or}
use Rattle.std.specs.List.{range_with_len}

-- the values at these places, in this order
abbrev pub picked : {X : Type 0} → X → List ℕ → List X → List X
picked d at xs = map (λ i. slice_index_or xs i d) at

-- the row at a place
abbrev pub across : {X : Type 0} → X → List (List X) → ℕ → List X
across d columns i = map (λ column. slice_index_or column i d) columns

-- the first so many rows
abbrev pub transpose : {X : Type 0} → X → ℕ → List (List X) → List (List X)
transpose d n columns = map (across d columns) (range_with_len 0 n)
