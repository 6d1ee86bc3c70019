-- The rows of a batch by their places, and their keys.
use Rattle.std.proofs.Common.{◌≡◌, ◌∙◌, ℕ, zero, suc, ◌+◌, ◌<◌, ◌≤◌, List, [], ◌∷◌, ◌++◌, Bool, true, false, ◌&&◌, map, get_or, refl, sym, ap, subst, arith}
use Rattle.std.specs.List.{AllByRecursion, All, range_with_len}
use Rattle.std.specs.Ordering.{bool_cmp}
use Rattle.std.specs.declared.cmp.Ordering.{Ordering}
use Rattle.std.proofs.lemmas.Bool.{lt-ltb, ltb-true}
use Rattle.std.proofs.lemmas.List.FromFn.{map-range_with_len_more}
use Rattle.std.proofs.lemmas.List.Elements.{All-weaker, All-from_recursion}
use Rattle.sub_types.specs.Rows.{picked}
use Rattle.sub_types.specs.Stream.{rows_alone}
use Rattle.sub_types.specs.declared.value.Value.TheVariants.{Null}
use Rattle.batch.specs.declared.batch.Batch.{Batch}
use Rattle.batch.specs.BatchRows.{rows_of, columns_of}
use Rattle.batch.proofs.RowLaws.{get_or-transpose, get_or-across}
use Rattle.plan_denote.specs.Rows.{Row}
use Rattle.plan_denote.specs.Sort.{IsArrangement, key_cmp}
use Rattle.plan_pipes.specs.RowMeaning.{keyed_by, direction_in, sorted_by}
use Rattle.rel_specs.specs.declared.key_order.KeyOrder.{KeyOrder}
use Rattle.row_keys.specs.Keys.{sort_key_of, direction_of}
use Rattle.batch_places.specs.BatchRow.{has_row, row_at}
use Rattle.batch_places.proofs.PlaceLaws.{rows-all, no_row}
use Rattle.sort_merge.specs.RowOrder.{in_order, row_cmp, place_cmp}
use Rattle.sort_merge.proofs.OrderLaws.{sorted_is, by_rows, by_tests, rows_at, there_at}

-- the key of a row is that of the batch at its place
pub key_at : (keys : List KeyOrder) (batch : Batch) (place : ℕ) → place < batch.rows → (keyed_by keys (row_at batch place)).0 ≡ sort_key_of keys batch place
key_at [] batch place below = refl
key_at (key ∷ keys) batch place below =
    ap (λ value. value ∷ map (λ (key : KeyOrder). get_or (row_at batch place) key.column Null) keys)
    (ap (λ row. get_or row key.column Null) (get_or-transpose Null batch.rows place (columns_of batch) [] below) ∙ get_or-across Null (columns_of batch) place key.column)
    ∙ ap (λ rest. get_or (get_or (columns_of batch) key.column []) place Null ∷ rest) (key_at keys batch place below)

-- so the keys in the batches decide as the rows do
pub cmp_at : (keys : List KeyOrder) (one other : Batch) (i j : ℕ) → i < one.rows → j < other.rows → row_cmp keys (row_at one i) (row_at other j) ≡ key_cmp (map direction_of keys) (sort_key_of keys one i) (sort_key_of keys other j)
cmp_at keys one other i j below within =
    ap (λ key. key_cmp (map direction_in keys) key (keyed_by keys (row_at other j)).0) (key_at keys one i below)
    ∙ ap (key_cmp (map direction_in keys) (sort_key_of keys one i)) (key_at keys other j within)

-- the places of all rows hold rows
there_from : (batch : Batch) (a n : ℕ) → a + n ≤ batch.rows → AllByRecursion (λ i. has_row batch i ≡ true) (range_with_len a n)
there_from batch a zero within = tt
there_from batch a (suc n) within = (lt-ltb a batch.rows (omega arith), there_from batch (a + 1) n (omega arith))

there_all : (batch : Batch) (places : List ℕ) → places ≡ range_with_len 0 batch.rows → AllByRecursion (λ i. has_row batch i ≡ true) places
there_all batch places all = subst (AllByRecursion (λ i. has_row batch i ≡ true)) (sym all) (there_from batch 0 batch.rows (omega arith))

-- the places in order are places of rows
pub places_within : (keys : List KeyOrder) (batch : Batch) (places ordered : List ℕ) → places ≡ range_with_len 0 batch.rows
    → IsArrangement (place_cmp keys (has_row batch) (row_at batch)) places ordered → All (λ i. i < batch.rows) ordered
places_within keys batch places ordered all is =
    All-weaker (λ i. has_row batch i ≡ true) (λ i. i < batch.rows) (λ i here. ltb-true i batch.rows here) ordered
    (All-from_recursion (λ i. has_row batch i ≡ true) ordered (there_at keys (has_row batch) (row_at batch) places ordered (there_all batch places all) is))

-- and the rows there are the rows in order
pub rows_picked : (keys : List KeyOrder) (batch : Batch) (places ordered : List ℕ) → places ≡ range_with_len 0 batch.rows
    → IsArrangement (place_cmp keys (has_row batch) (row_at batch)) places ordered → picked [] ordered (rows_of batch) ≡ in_order keys (rows_of batch)
rows_picked keys batch places ordered all is =
    rows_at keys (has_row batch) (row_at batch) places ordered (there_all batch places all) is
    ∙ ap (in_order keys) (ap (map (row_at batch)) all ∙ rows-all batch)

-- two places by the keys there, and by whether there are rows
pub by_keys : (keys : List KeyOrder) (batch : Batch) (a b : ℕ) (o : Ordering) → has_row batch a ≡ true → has_row batch b ≡ true → o ≡ key_cmp (map direction_of keys) (sort_key_of keys batch a) (sort_key_of keys batch b)
    → o ≡ place_cmp keys (has_row batch) (row_at batch) a b
by_keys keys batch a b o here there is =
    is ∙ sym (cmp_at keys batch batch a b (ltb-true a batch.rows here) (ltb-true b batch.rows there))
    ∙ sym (by_rows keys (has_row batch) (row_at batch) a b here there)

pub by_presence : (keys : List KeyOrder) (batch : Batch) (a b : ℕ) (o : Ordering) → has_row batch a && has_row batch b ≡ false → o ≡ bool_cmp (has_row batch a) (has_row batch b) → o ≡ place_cmp keys (has_row batch) (row_at batch) a b
by_presence keys batch a b o not_both is = is ∙ sym (by_tests keys (has_row batch) (row_at batch) (no_row batch) a b not_both)

pub not_first : (a b : Bool) → a ≡ false → a && b ≡ false
not_first a b none = ap (λ test. test && b) none

pub not_second : (a b : Bool) → b ≡ false → a && b ≡ false
not_second true b none = none
not_second false b none = refl

as_map : (places : List ℕ) → map (λ place. place) places ≡ places
as_map [] = refl
as_map (place ∷ places) = ap (λ rest. place ∷ rest) (as_map places)

-- one place more
pub places_more : (n : ℕ) (old new : List ℕ) → new ≡ old ++ n ∷ [] → old ≡ range_with_len 0 n → new ≡ range_with_len 0 (n + 1)
places_more n old new pushed so_far =
    pushed ∙ ap (λ places. places ++ n ∷ []) (so_far ∙ sym (as_map (range_with_len 0 n)))
    ∙ sym (map-range_with_len_more (λ place. place) 0 n n (omega arith)) ∙ as_map (range_with_len 0 (n + 1))

-- the rows picked there are the rows in order
pub picked_sorted : (keys : List KeyOrder) (batch : Batch) (places ordered at : List ℕ) (given : List Row) → places ≡ range_with_len 0 batch.rows → IsArrangement (place_cmp keys (has_row batch) (row_at batch)) places ordered → at ≡ ordered
    → given ≡ picked [] at (rows_of batch) → rows_alone given ≡ sorted_by keys (rows_alone (rows_of batch))
picked_sorted keys batch places ordered at given all is same rows =
    ap rows_alone (rows ∙ ap (λ some. picked [] some (rows_of batch)) same ∙ rows_picked keys batch places ordered all is) ∙ sym (sorted_is keys (rows_of batch))
