-- Rows of several batches by their places.
use Rattle.std.proofs.Common.{◌≡◌, ◌∙◌, ℕ, zero, suc, ◌+◌, ◌<◌, ◌≤◌, List, [], ◌∷◌, ◌++◌, true, false, Option, Some, None, length, map, take, drop, get_or, slice_get, refl, sym, ap, subst, arith, true≢false, append-nil, append_assoc, inl, inr}
use Rattle.std.specs.List.{AllByRecursion, range_with_len, flat_map}
use Rattle.std.proofs.lemmas.Bool.{lt-ltb, ltb-true, cases_lt}
use Rattle.std.proofs.lemmas.Grind.{flat_map-append}
use Rattle.std.proofs.lemmas.List.{take_more, take_all, map-append}
use Rattle.std.proofs.lemmas.List.Elements.{All-nil, All-from_recursion, All-append, All-take, All-drop}
use Rattle.std.proofs.lemmas.Option.{get_or_from_slice_get, slice_get_past}
use Rattle.std.proofs.lemmas.List.FromFn.{map-range_with_len_more}
use Rattle.std.proofs.lemmas.Simd.{map-map}
use Rattle.std.proofs.Math.Seq.{take-append_seam, drop-append_seam}
use Rattle.batch.specs.declared.batch.Batch.{Batch}
use Rattle.batch.specs.BatchRows.{rows_of}
use Rattle.batch_places.specs.declared.places.Place.{Place}
use Rattle.batch_places.specs.BatchRow.{has_row, row_at}
use Rattle.batch_places.specs.Places.{has_in, row_in, is_there, row_there, AreThere, places_in}
use Rattle.sub_types.specs.declared.value.Value.{Value}
use Rattle.sub_types.specs.declared.value.Value.TheVariants.{Null}
use Rattle.batch.proofs.RowLaws.{length-transpose, columns-all}
use Rattle.std.proofs.lemmas.Bool.{ltb-false}
use Rattle.std.proofs.lemmas.List.{get_or_past}
use Rattle.batch.specs.BatchRows.{columns_of}

pub length-rows : (batch : Batch) → length (rows_of batch) ≡ batch.rows
length-rows batch = length-transpose Null batch.rows (columns_of batch)

-- the rows at all places
pub rows-all : (batch : Batch) → map (row_at batch) (range_with_len 0 batch.rows) ≡ rows_of batch
rows-all batch = columns-all (rows_of batch) batch.rows (length-rows batch)

-- no row is at a place behind them
pub no_row : (batch : Batch) (place : ℕ) → has_row batch place ≡ false → row_at batch place ≡ []
no_row batch place none = get_or_past (rows_of batch) place [] (omega (arith, ltb-false place batch.rows none, length-rows batch))

-- where no row is, the row is empty
no_row_in : (found : Option Batch) (row : ℕ) → has_in found row ≡ false → row_in found row ≡ []
no_row_in None row none = refl
no_row_in (Some batch) row none = no_row batch row none

pub no_row_there : (runs : List Batch) (place : Place) → is_there runs place ≡ false → row_there runs place ≡ []
no_row_there runs place none = no_row_in (slice_get runs place.run) place.row none

-- a row that is there is a row of a run
pub run_there : (runs : List Batch) (place : Place) → is_there runs place ≡ true → place.run < length runs
run_there runs place there =
    elim (cases_lt place.run (length runs)) [
      | inl below ↦ below
      | inr past ↦ absurd (true≢false (sym there ∙ ap (λ found. has_in found place.row) (slice_get_past runs place.run past)))
    ]

pub row_within : (runs : List Batch) (place : Place) (batch : Batch) → slice_get runs place.run ≡ Some batch → is_there runs place ≡ true → place.row < batch.rows
row_within runs place batch is there = ltb-true place.row batch.rows (sym (ap (λ found. has_in found place.row) is) ∙ there)

pub row_is : (runs : List Batch) (place : Place) (batch : Batch) → slice_get runs place.run ≡ Some batch → row_there runs place ≡ row_at batch place.row
row_is runs place batch is = ap (λ found. row_in found place.row) is

-- the places of a run hold its rows
rows_in_run : (runs : List Batch) (i : ℕ) (batch : Batch) → slice_get runs i ≡ Some batch → map (row_there runs) (places_in i batch.rows) ≡ rows_of batch
rows_in_run runs i batch is =
    map-map (row_there runs) (λ (row : ℕ). record { run = i; row = row }) (range_with_len 0 batch.rows)
    ∙ ap (λ found. map (row_in found) (range_with_len 0 batch.rows)) is ∙ rows-all batch

there_in_run : (runs : List Batch) (i : ℕ) (batch : Batch) → slice_get runs i ≡ Some batch → (a n : ℕ) → a + n ≤ batch.rows
    → AllByRecursion (λ place. is_there runs place ≡ true) (map (λ (row : ℕ). record { run = i; row = row }) (range_with_len a n))
there_in_run runs i batch is a zero within = tt
there_in_run runs i batch is a (suc n) within =
    (ap (λ found. has_in found a) is ∙ lt-ltb a batch.rows (omega arith), there_in_run runs i batch is (a + 1) n (omega arith))

-- one place more
pub places_more : (run n : ℕ) (start old new : List Place) → new ≡ old ++ record { run = run; row = n } ∷ [] → old ≡ start ++ places_in run n → new ≡ start ++ places_in run (n + 1)
places_more run n start old new pushed so_far =
    let one : Place = record { run = run; row = n } in
    pushed ∙ ap (λ front. front ++ one ∷ []) so_far ∙ append_assoc start (places_in run n) (one ∷ [])
    ∙ ap (λ back. start ++ back) (sym (map-range_with_len_more (λ (row : ℕ). record { run = run; row = row }) 0 n n (omega arith)))

-- the places so far hold the rows of the first so many runs
pub record HoldRuns (runs : List Batch) (i : ℕ) (places : List Place) : Type 0 where
  pub rows : map (row_there runs) places ≡ flat_map rows_of (take i runs)
  pub there : AreThere runs places

pub HoldRuns-more : (runs : List Batch) (i : ℕ) (batch : Batch) (old new : List Place) → i < length runs → slice_get runs i ≡ Some batch → new ≡ old ++ places_in i batch.rows → HoldRuns runs i old → HoldRuns runs (i + 1) new
HoldRuns-more runs i batch old new below is more so_far =
    let here : get_or runs i batch ≡ batch = get_or_from_slice_get runs i batch batch is in
    let all_there : AreThere runs (places_in i batch.rows) = All-from_recursion (λ place. is_there runs place ≡ true) (places_in i batch.rows) (there_in_run runs i batch is 0 batch.rows (omega arith)) in
    record {
      rows =
          ap (map (row_there runs)) more
          ∙ map-append (row_there runs) old (places_in i batch.rows)
          ∙ ap (λ front. front ++ map (row_there runs) (places_in i batch.rows)) so_far.rows
          ∙ ap (λ back. flat_map rows_of (take i runs) ++ back) (rows_in_run runs i batch is ∙ sym (append-nil (rows_of batch)))
          ∙ sym (flat_map-append rows_of (take i runs) (batch ∷ []))
          ∙ ap (λ one. flat_map rows_of (take i runs ++ one ∷ [])) (sym here)
          ∙ ap (flat_map rows_of) (sym (take_more runs i batch below));
      there = subst (AreThere runs) (sym more) (All-append (λ place. is_there runs place ≡ true) old (places_in i batch.rows) so_far.there all_there);
    }

pub HoldRuns-none : (runs : List Batch) (places : List Place) → places ≡ [] → HoldRuns runs 0 places
HoldRuns-none runs places none = subst (HoldRuns runs 0) (sym none) (record { rows = refl; there = All-nil (λ place. is_there runs place ≡ true) })

pub HoldRuns-all : (runs : List Batch) (i : ℕ) (places : List Place) → length runs ≤ i → HoldRuns runs i places → map (row_there runs) places ≡ flat_map rows_of runs
HoldRuns-all runs i places done held = held.rows ∙ ap (flat_map rows_of) (take_all i runs done)

-- batches of the first so many places
pub batches_more : (runs : List Batch) (batches more : List Batch) (one : Batch) (part rest all : List Place) (rows : List (List Value)) → more ≡ batches ++ one ∷ [] → rows_of one ≡ map (row_there runs) part → all ≡ part ++ rest
    → flat_map rows_of batches ++ map (row_there runs) all ≡ rows → flat_map rows_of more ++ map (row_there runs) rest ≡ rows
batches_more runs batches more one part rest all rows grown here parts so_far =
    ap (λ some. flat_map rows_of some ++ map (row_there runs) rest) grown
    ∙ ap (λ front. front ++ map (row_there runs) rest) (flat_map-append rows_of batches (one ∷ []) ∙ ap (λ back. flat_map rows_of batches ++ back) (append-nil (rows_of one) ∙ here))
    ∙ append_assoc (flat_map rows_of batches) (map (row_there runs) part) (map (row_there runs) rest)
    ∙ ap (λ back. flat_map rows_of batches ++ back) (sym (map-append (row_there runs) part rest) ∙ ap (map (row_there runs)) (sym parts))
    ∙ so_far

-- what holds of the places holds of those in a part and of the rest
pub there_first : (runs : List Batch) (part rest all : List Place) → all ≡ part ++ rest → AreThere runs all → AreThere runs part
there_first runs part rest all parts there =
    subst (AreThere runs) (ap (take (length part)) parts ∙ take-append_seam part rest) (All-take (λ place. is_there runs place ≡ true) (length part) all there)

pub there_rest : (runs : List Batch) (part rest all : List Place) → all ≡ part ++ rest → AreThere runs all → AreThere runs rest
there_rest runs part rest all parts there =
    subst (AreThere runs) (ap (drop (length part)) parts ∙ drop-append_seam part rest) (All-drop (λ place. is_there runs place ≡ true) (length part) all there)
