-- The rows of several batches by their places, and their hashes.
use Rattle.std.proofs.Common.{◌≡◌, ◌∙◌, ℕ, zero, suc, ◌+◌, ◌<◌, ◌≤◌, List, [], ◌∷◌, ◌++◌, Some, Bool, true, length, map, take, get_or, slice_get, refl, sym, ap, ap₂, subst, arith, append-nil}
use Rattle.std.specs.List.{All, range_with_len}
use Rattle.std.proofs.lemmas.Grind.{flat_map-append}
use Rattle.std.proofs.lemmas.List.{length-map, map-append, take_more, take_all, get_or-map}
use Rattle.std.proofs.lemmas.List.FromFn.{get_or-range_with_len, length-range_with_len}
use Rattle.std.proofs.lemmas.Option.{slice_get_read}
use Rattle.std.proofs.lemmas.Simd.{map-map}
use Rattle.sub_types.specs.declared.kind.Ty.{Ty}
use Rattle.sub_types.specs.declared.value.Value.TheVariants.{Null}
use Rattle.batch.specs.declared.batch.Batch.{Batch}
use Rattle.batch.specs.BatchRows.{rows_of, types_of, columns_of}
use Rattle.batch.specs.Column.{column_values, column_type}
use Rattle.batch.proofs.RowLaws.{get_or-transpose, columns-all}
use Rattle.batch_places.specs.declared.places.Place.{Place}
use Rattle.batch_places.specs.BatchRow.{row_at as batch_row}
use Rattle.batch_places.specs.Places.{is_there, row_there, AreThere}
use Rattle.batch_places.proofs.PlaceLaws.{row_is, row_within, run_there, rows-all}
use Rattle.plan_denote.specs.Rows.{Row}
use Rattle.plan_denote.specs.Sets.{row_at}
use Rattle.plan_denote.specs.Distinct.{is_same_row}
use Rattle.key_hashes.specs.Keys.{value_in, key_of}
use Rattle.key_hashes.specs.KeyHash.{key_hash}
use Rattle.hash_chains.specs.declared.keyed.Numbering.{Numbering}
use Rattle.set_places.proofs.TimesLaws.{range-split}
use Rattle.set_rels.specs.Keyed.{all_rows, AreWhole, AreAlike, number_by}

-- the key of all columns is the row
pub key_is : (columns : List ℕ) (batch : Batch) (row : ℕ) → columns ≡ range_with_len 0 (length batch.columns.items) → row < batch.rows → key_of columns batch row ≡ batch_row batch row
key_is columns batch row all below =
    let cols = columns_of batch in
    let width : length cols ≡ length batch.columns.items = length-map batch.columns.items column_values in
    ap (map (value_in batch row)) all
    ∙ sym (map-map (λ column. get_or column row Null) (λ i. get_or cols i []) (range_with_len 0 (length batch.columns.items)))
    ∙ ap (map (λ column. get_or column row Null)) (columns-all cols (length batch.columns.items) width)
    ∙ sym (get_or-transpose Null batch.rows row cols [] below)

-- columns of the same number
pub columns_within : (columns : List ℕ) (width : ℕ) → columns ≡ range_with_len 0 width → All (λ column. column < width) columns
columns_within columns width e =
    subst (All (λ column. column < width)) (sym e) (λ k d below.
    let i : k < width = omega (arith, length-range_with_len 0 width) in
    omega (arith, get_or-range_with_len 0 width k d i))

pub same_width : (one other : Batch) → types_of one ≡ types_of other → length one.columns.items ≡ length other.columns.items
same_width one other e = sym (length-map one.columns.items column_type) ∙ ap length e ∙ length-map other.columns.items column_type

-- a row by its place
pub row_of_place : (runs : List Batch) (places : List Place) (i : ℕ) (d : Place) (run : Batch) → map (row_there runs) places ≡ all_rows runs → i < length places → slice_get runs (get_or places i d).run ≡ Some run
    → row_at (all_rows runs) i ≡ batch_row run (get_or places i d).row
row_of_place runs places i d run placed below is =
    ap (λ rows. get_or rows i []) (sym placed) ∙ get_or-map (row_there runs) places i d [] below ∙ row_is runs (get_or places i d) run is

-- whether two rows are the same, by their keys
pub same_is : (one other : Batch) (i j : ℕ) (columns : List ℕ) (row next : Row) (result : Bool) → columns ≡ range_with_len 0 (length one.columns.items) → types_of one ≡ types_of other → i < one.rows → j < other.rows
    → row ≡ batch_row one i → next ≡ batch_row other j → result ≡ is_same_row (key_of columns one i) (key_of columns other j) → result ≡ is_same_row row next
same_is one other i j columns row next result all types below within row_is next_is is =
    is ∙ ap₂ is_same_row (key_is columns one i all below ∙ sym row_is) (key_is columns other j (all ∙ ap (range_with_len 0) (same_width one other types)) within ∙ sym next_is)

-- the hashes of the rows of a batch
map_in : {A : Type 0} (f g : ℕ → A) (n a : ℕ) → ((k : ℕ) → a ≤ k → k < a + n → f k ≡ g k) → map f (range_with_len a n) ≡ map g (range_with_len a n)
map_in f g zero a h = refl
map_in f g (suc n) a h = ap₂ (λ x rest. x ∷ rest) (h a (omega arith) (omega arith)) (map_in f g n (a + 1) (λ k low high. h k (omega arith) (omega arith)))

run_hashes : (seed : ℕ) (columns : List ℕ) (batch : Batch) → columns ≡ range_with_len 0 (length batch.columns.items) → map (λ row. key_hash seed (key_of columns batch row)) (range_with_len 0 batch.rows) ≡ map (key_hash seed) (rows_of batch)
run_hashes seed columns batch all =
    map_in (λ row. key_hash seed (key_of columns batch row)) (λ row. key_hash seed (batch_row batch row)) batch.rows 0 (λ row low high. ap (key_hash seed) (key_is columns batch row all (omega arith)))
    ∙ sym (map-map (key_hash seed) (batch_row batch) (range_with_len 0 batch.rows))
    ∙ ap (map (key_hash seed)) (rows-all batch)

-- of one batch more
pub hashes_more : (seed : ℕ) (columns : List ℕ) (runs : List Batch) (i : ℕ) (run : Batch) (old more new : List ℕ) → i < length runs → run ≡ get_or runs i run → AreWhole columns runs
    → more ≡ map (λ row. key_hash seed (key_of columns run row)) (range_with_len 0 run.rows) → new ≡ old ++ more → old ≡ map (key_hash seed) (all_rows (take i runs)) → new ≡ map (key_hash seed) (all_rows (take (i + 1) runs))
hashes_more seed columns runs i run old more new below at whole more_is new_is so_far =
    let all : columns ≡ range_with_len 0 (length run.columns.items) = subst (λ one. columns ≡ range_with_len 0 (length one.columns.items)) (sym at) (whole i run below) in
    new_is ∙ ap₂ (λ a b. a ++ b) so_far (more_is ∙ run_hashes seed columns run all ∙ ap (map (key_hash seed)) (sym (append-nil (rows_of run))))
    ∙ sym (map-append (key_hash seed) (all_rows (take i runs)) (all_rows (run ∷ [])))
    ∙ ap (map (key_hash seed)) (sym (flat_map-append rows_of (take i runs) (run ∷ [])) ∙ ap (λ one. all_rows (take i runs ++ one ∷ [])) at ∙ ap all_rows (sym (take_more runs i run below)))

pub hashes_all : (seed : ℕ) (runs : List Batch) (i : ℕ) (hashes : List ℕ) → length runs ≤ i → hashes ≡ map (key_hash seed) (all_rows (take i runs)) → hashes ≡ map (key_hash seed) (all_rows runs)
hashes_all seed runs i hashes done e = e ∙ ap (λ l. map (key_hash seed) (all_rows l)) (take_all i runs done)

-- the numbers of all rows
numbers_by : (f : Row → ℕ) (rows : List Row) (n : ℕ) → length rows ≡ n → map f rows ≡ map (λ i. f (row_at rows i)) (range_with_len 0 n)
numbers_by f rows n e = ap (map f) (sym (columns-all rows n e)) ∙ map-map f (λ i. get_or rows i []) (range_with_len 0 n)

pub numbers_are : (numbering : Numbering) (runs : List Batch) (places : List Place) (numbers : List ℕ) → map (row_there runs) places ≡ all_rows runs → numbers ≡ map (number_by numbering) (all_rows runs) → numbers ≡ map (λ i. number_by numbering (row_at (all_rows runs) i)) (range_with_len 0 (length places))
numbers_are numbering runs places numbers placed e =
    e ∙ numbers_by (number_by numbering) (all_rows runs) (length places) (ap length (sym placed) ∙ length-map places (row_there runs))

-- the rows at places that are found by their numbers
pub places_there : (runs : List Batch) (places : List Place) (at : List ℕ) (d : Place) → AreThere runs places → All (λ row. row < length places) at → AreThere runs (map (λ row. get_or places row d) at)
places_there runs places at d there within k e below =
    let i : k < length at = omega (arith, length-map at (λ row. get_or places row d)) in
    subst (λ place. is_there runs place ≡ true) (sym (get_or-map (λ row. get_or places row d) at k 0 e i)) (there (get_or at k 0) d (within k 0 i))

pub rows_there : (runs : List Batch) (places : List Place) (at : List ℕ) (d : Place) → map (row_there runs) places ≡ all_rows runs → All (λ row. row < length places) at → map (row_there runs) (map (λ row. get_or places row d) at) ≡ map (row_at (all_rows runs)) at
rows_there runs places [] d placed within = refl
rows_there runs places (row ∷ at) d placed within =
    ap₂ (λ x rest. x ∷ rest) (sym (get_or-map (row_there runs) places row d [] (within 0 0 (omega arith))) ∙ ap (λ rows. get_or rows row []) placed)
    (rows_there runs places at d placed (λ k e below. within (suc k) e (omega arith)))

-- the place of a row is in a batch, whose columns are all columns
pub run_of_row : (runs : List Batch) (places : List Place) (row : ℕ) (place : Place) → AreThere runs places → row < length places → place ≡ get_or places row place → place.run < length runs
run_of_row runs places row place there below at = run_there runs place (subst (λ p. is_there runs p ≡ true) (sym at) (there row place below))

pub columns_of_run : (columns : List ℕ) (runs : List Batch) (i : ℕ) (run : Batch) → AreWhole columns runs → i < length runs → run ≡ get_or runs i run → columns ≡ range_with_len 0 (length run.columns.items)
columns_of_run columns runs i run whole below at = subst (λ one. columns ≡ range_with_len 0 (length one.columns.items)) (sym at) (whole i run below)

pub types_alike : (runs others : List Batch) (i j : ℕ) (run other : Batch) → AreAlike runs others → i < length runs → j < length others → run ≡ get_or runs i run → other ≡ get_or others j other → types_of run ≡ types_of other
types_alike runs others i j run other alike below within at there = ap types_of at ∙ alike i run below j other within ∙ sym (ap types_of there)

-- the row there
pub row_found : (runs : List Batch) (places : List Place) (row : ℕ) (place : Place) (run : Batch) → AreThere runs places → map (row_there runs) places ≡ all_rows runs → row < length places → place ≡ get_or places row place → run ≡ get_or runs place.run run
    → (place.row < run.rows) × (row_at (all_rows runs) row ≡ batch_row run place.row)
row_found runs places row place run there placed below at run_at =
    let here : is_there runs place ≡ true = subst (λ p. is_there runs p ≡ true) (sym at) (there row place below) in
    let is : slice_get runs place.run ≡ Some run = slice_get_read runs (length runs) place.run run refl (run_there runs place here) run_at in (
      row_within runs place run is here,
      ap (λ rows. get_or rows row []) (sym placed) ∙ get_or-map (row_there runs) places row place [] below ∙ ap (row_there runs) (sym at) ∙ row_is runs place run is,
    )

-- the hashes of one batch are the numbers of its rows
pub one_numbers : (numbering : Numbering) (seed : ℕ) (columns : List ℕ) (batch : Batch) (numbers : List ℕ) → columns ≡ range_with_len 0 (length batch.columns.items) → ((row : Row) → key_hash seed row ≡ number_by numbering row)
    → numbers ≡ map (λ row. key_hash seed (key_of columns batch row)) (range_with_len 0 batch.rows) → numbers ≡ map (λ row. number_by numbering (row_at (rows_of batch) row)) (range_with_len 0 batch.rows)
one_numbers numbering seed columns batch numbers all numbered is =
    is ∙ map_in (λ row. key_hash seed (key_of columns batch row)) (λ row. number_by numbering (row_at (rows_of batch) row)) batch.rows 0 (λ row low high.
    ap (key_hash seed) (key_is columns batch row all (omega arith)) ∙ numbered (row_at (rows_of batch) row))

-- one column more
pub columns_more : (n : ℕ) (old new : List ℕ) → new ≡ old ++ n ∷ [] → old ≡ range_with_len 0 n → new ≡ range_with_len 0 (n + 1)
columns_more n old new pushed so_far = pushed ∙ ap (λ l. l ++ n ∷ []) so_far ∙ sym (range-split n 0 1 (n + 1) n refl (omega arith))

-- batches of the same types are alike
pub all_alike : (types : List Ty) (runs : List Batch) → All (λ run. types_of run ≡ types) runs → AreAlike runs runs
all_alike types runs all = λ i d below j e within. all i d below ∙ sym (all j e within)
