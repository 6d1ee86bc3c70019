-- Rows of several batches in order, by their places.
use Rattle.std.proofs.Common.{◌≡◌, ◌∙◌, ◌<◌, List, [], ◌∷◌, true, false, ◌&&◌, Some, None, refl, slice_get, length, map, sym, ap, arith}
use Rattle.std.specs.List.{All, flat_map}
use Rattle.std.proofs.lemmas.List.Elements.{All-from_recursion, recursion_from_All}
use Rattle.sub_types.specs.Stream.{rows_alone}
use Rattle.batch.specs.BatchRows.{rows_of, types_of}
use Rattle.batch.proofs.JoinLaws.{length-columns}
use Rattle.plan_denote.specs.Rows.{Row}
use Rattle.plan_denote.specs.Sort.{IsArrangement}
use Rattle.plan_pipes.specs.RowMeaning.{sorted_by}
use Rattle.std.specs.Ordering.{bool_cmp}
use Rattle.std.specs.declared.cmp.Ordering.{Ordering}
use Rattle.batch.specs.declared.batch.Batch.{Batch}
use Rattle.batch_places.specs.declared.places.Place.{Place}
use Rattle.batch_places.specs.BatchRow.{row_at}
use Rattle.batch_places.specs.Places.{is_there, row_there, AreThere, first_types}
use Rattle.batch_places.proofs.PlaceLaws.{no_row_there, row_within, row_is}
use Rattle.plan_denote.specs.Sort.{key_cmp}
use Rattle.rel_specs.specs.declared.key_order.KeyOrder.{KeyOrder}
use Rattle.row_keys.specs.Keys.{sort_key_of, direction_of}
use Rattle.sort_merge.specs.RowOrder.{in_order, row_cmp, place_cmp}
use Rattle.sort_merge.proofs.OrderLaws.{by_rows, by_tests, rows_at, there_at, in_order_is, sorted_is}
use Rattle.sort_merge.proofs.RowLaws.{cmp_at}

-- two places by the keys there, and by whether there are rows
pub by_keys_there : (keys : List KeyOrder) (runs : List Batch) (a b : Place) (one other : Batch) (o : Ordering) → slice_get runs a.run ≡ Some one → slice_get runs b.run ≡ Some other → is_there runs a ≡ true → is_there runs b ≡ true
    → o ≡ key_cmp (map direction_of keys) (sort_key_of keys one a.row) (sort_key_of keys other b.row) → o ≡ place_cmp keys (is_there runs) (row_there runs) a b
by_keys_there keys runs a b one other o one_is other_is here there is =
    is ∙ sym (cmp_at keys one other a.row b.row (row_within runs a one one_is here) (row_within runs b other other_is there))
    ∙ ap (λ row. row_cmp keys row (row_at other b.row)) (sym (row_is runs a one one_is))
    ∙ ap (row_cmp keys (row_there runs a)) (sym (row_is runs b other other_is))
    ∙ sym (by_rows keys (is_there runs) (row_there runs) a b here there)

pub by_presence_there : (keys : List KeyOrder) (runs : List Batch) (a b : Place) (o : Ordering) → is_there runs a && is_there runs b ≡ false → o ≡ bool_cmp (is_there runs a) (is_there runs b) → o ≡ place_cmp keys (is_there runs) (row_there runs) a b
by_presence_there keys runs a b o not_both is = is ∙ sym (by_tests keys (is_there runs) (row_there runs) (no_row_there runs) a b not_both)

-- places of rows in order are places of rows
pub ordered_there : (keys : List KeyOrder) (runs : List Batch) (places ordered : List Place) → AreThere runs places → IsArrangement (place_cmp keys (is_there runs) (row_there runs)) places ordered → AreThere runs ordered
ordered_there keys runs places ordered there is =
    All-from_recursion (λ place. is_there runs place ≡ true) ordered
    (there_at keys (is_there runs) (row_there runs) places ordered (recursion_from_All (λ place. is_there runs place ≡ true) places there) is)

-- and the rows there are all rows in order
pub interleaved : (keys : List KeyOrder) (runs : List Batch) (places ordered : List Place) (given : List Row) → map (row_there runs) places ≡ flat_map rows_of runs → AreThere runs places
    → IsArrangement (place_cmp keys (is_there runs) (row_there runs)) places ordered → given ≡ map (row_there runs) ordered → rows_alone given ≡ sorted_by keys (rows_alone (flat_map rows_of runs))
interleaved keys runs places ordered given rows there is given_is =
    ap rows_alone
    (given_is
    ∙ rows_at keys (is_there runs) (row_there runs) places ordered (recursion_from_All (λ place. is_there runs place ≡ true) places there) is
    ∙ ap (in_order keys) rows)
    ∙ sym (sorted_is keys (flat_map rows_of runs))

-- no first run
pub no_first : (runs : List Batch) → None ≡ slice_get runs 0 → runs ≡ []
no_first [] e = refl
no_first (run ∷ runs) e = absurd (cc)

-- no rows in order
pub none_sorted : (keys : List KeyOrder) (rows given : List Row) → rows ≡ [] → given ≡ [] → rows_alone given ≡ sorted_by keys (rows_alone rows)
none_sorted keys rows given none no_given =
    ap rows_alone (no_given ∙ sym (in_order_is keys [])) ∙ sym (sorted_is keys []) ∙ ap (λ all. sorted_by keys (rows_alone all)) (sym none)

heads : {x y : Batch} → Some x ≡ Some y → x ≡ y
heads same = cc

-- the types and the columns of the first run are those of all
pub first_types_are : (runs : List Batch) (first : Batch) → Some first ≡ slice_get runs 0 → first_types runs ≡ types_of first
first_types_are [] first e = absurd (cc)
first_types_are (run ∷ runs) first e = ap types_of (sym (heads e))

pub columns_of_whole : (keys : List KeyOrder) (runs : List Batch) (first whole : Batch) → Some first ≡ slice_get runs 0 → All (λ (run : Batch). All (λ (key : KeyOrder). key.column < length run.columns.items) keys) runs → types_of whole ≡ types_of first
    → All (λ (key : KeyOrder). key.column < length whole.columns.items) keys
columns_of_whole keys [] first whole e all same = absurd (cc)
columns_of_whole keys (run ∷ runs) first whole e all same = λ k d below.
    let here = all 0 run (omega arith) k d below in
    let wide : length whole.columns.items ≡ length run.columns.items = length-columns whole (types_of run) (same ∙ ap types_of (heads e)) ∙ sym (length-columns run (types_of run) refl) in
    omega arith
