-- The rows of several batches by all their values.
use Rattle.std.specs.Prelude.{◌≡◌, ℕ, List, length, slice_index_or}
use Rattle.std.specs.List.{All, flat_map, range_with_len}
use Rattle.batch.specs.declared.batch.Batch.{Batch}
use Rattle.batch.specs.BatchRows.{rows_of, types_of}
use Rattle.batch_places.specs.declared.places.Place.{Place}
use Rattle.plan_denote.specs.Rows.{Row}
use Rattle.key_hashes.specs.KeyHash.{key_hash}
use Rattle.hash_chains.specs.declared.keyed.Numbering.{Numbering}
use Rattle.hash_chains.specs.declared.keyed.Numbering.TheVariants.{Plain, Seeded}

abbrev pub all_rows : List Batch → List Row
all_rows runs = flat_map rows_of runs

-- the columns are all those of each batch
abbrev pub AreWhole : List ℕ → List Batch → Type 0
AreWhole columns runs = All (λ run. columns ≡ range_with_len 0 (length run.columns.items)) runs

-- batches of the same types
abbrev pub AreAlike : List Batch → List Batch → Type 0
AreAlike runs others = All (λ run. All (λ other. types_of run ≡ types_of other) others) runs

-- the number of a row: its hash by the seed
abbrev pub number_by : Numbering → Row → ℕ
number_by Plain row = key_hash 0 row
number_by (Seeded seed) row = key_hash seed row

-- the place of a row
abbrev pub place_at : List Place → ℕ → Place
place_at places row = slice_index_or places row (record { run = 0; row = 0 })
