-- The columns of rows from a place on.
use Rattle.std.proofs.Common.{◌≡◌, ℕ, suc, ◌+◌, List, [], ◌∷◌, length, map, refl, ap}
use Rattle.std.specs.List.{flat_map, enumerate_from}
use Rattle.sub_types.specs.declared.kind.Ty.{Ty}
use Rattle.sub_types.specs.declared.value.Value.{Value}
use Rattle.arrow_meta.specs.Buffers.{column_buffers, column_at, null_count}

-- the buffers of the columns from the one at i on
abbrev pub buffers_from : ℕ → List Ty → List (List Value) → List (List ℕ)
buffers_from i types rows = flat_map (λ column. column_buffers column.1.kind (column_at column.0 rows)) (enumerate_from i types)

-- the number of values and of nulls of each of them
abbrev pub nodes_from : ℕ → List Ty → List (List Value) → List (ℕ × ℕ)
nodes_from i types rows = map (λ column. (length rows, null_count (column_at column.0 rows))) (enumerate_from i types)

pub length-nodes_from : (i : ℕ) (types : List Ty) (rows : List (List Value)) → length (nodes_from i types rows) ≡ length types
length-nodes_from i [] rows = refl
length-nodes_from i (ty ∷ types) rows = ap (λ n. suc n) (length-nodes_from (i + 1) types rows)
