-- Rows that are gathered column by column.
use Rattle.std.proofs.Common.{◌≡◌, ◌∙◌, ℕ, ◌+◌, ◌<◌, List, [], ◌∷◌, ◌++◌, true, Some, length, map, take, get_or, slice_get, zero-add, refl, sym, ap, subst, arith, true≢false, inl, inr}
use Rattle.std.specs.List.{All, range_with_len}
use Rattle.std.proofs.Math.ListN.{get_or-map}
use Rattle.std.proofs.lemmas.List.{get_or-map as get_or-map_within, length-map, map_push, take_more, take_all}
use Rattle.std.proofs.lemmas.List.Elements.{All-map}
use Rattle.std.proofs.lemmas.List.FromFn.{fill_by_all, map-range_with_len_more, length-map-range_with_len, get_or-map-range_with_len}
use Rattle.std.proofs.lemmas.Option.{get_or_from_slice_get, slice_get_cases}
use Rattle.sub_types.specs.declared.kind.Ty.{Ty}
use Rattle.sub_types.specs.declared.value.Value.{Value}
use Rattle.sub_types.specs.declared.value.Value.TheVariants.{Null}
use Rattle.sub_types.specs.Rows.{across, transpose}
use Rattle.batch.specs.declared.column.Column.{Column}
use Rattle.batch.specs.Column.{column_values, column_type}
use Rattle.batch.specs.declared.batch.Batch.{Batch}
use Rattle.batch.specs.BatchRows.{columns_of, types_of}
use Rattle.batch.proofs.JoinLaws.{length-columns}
use Rattle.batch.proofs.RowLaws.{transpose-from, get_or-transpose}
use Rattle.batch_places.specs.declared.places.Place.{Place}
use Rattle.batch_places.specs.BatchRow.{row_at}
use Rattle.batch_places.specs.Places.{has_in, is_there, row_there, AreThere}
use Rattle.batch_places.proofs.PlaceLaws.{row_is, row_within}

-- the values of these rows in a column
abbrev pub column_in : List (List Value) → ℕ → List Value
column_in rows index = map (λ row. get_or row index Null) rows

across_at : (rows : List (List Value)) (i : ℕ) → i < length rows → (indices : List ℕ) → across Null (map (column_in rows) indices) i ≡ map (λ index. get_or (get_or rows i []) index Null) indices
across_at rows i below [] = refl
across_at rows i below (index ∷ indices) =
    ap (λ value. value ∷ across Null (map (column_in rows) indices) i) (get_or-map_within (λ row. get_or row index Null) rows i [] Null below)
    ∙ ap (λ rest. get_or (get_or rows i []) index Null ∷ rest) (across_at rows i below indices)

-- the rows over their columns are the rows
pub columns_back : (width : ℕ) (rows : List (List Value)) → All (λ row. length row ≡ width) rows → transpose Null (length rows) (map (column_in rows) (range_with_len 0 width)) ≡ rows
columns_back width rows wide =
    transpose-from Null (length rows) (map (column_in rows) (range_with_len 0 width)) rows refl (λ i below.
    fill_by_all (λ index. get_or (get_or rows i []) index Null) (get_or rows i []) width Null (wide i [] below) (λ k within. refl)
    ∙ sym (across_at rows i below (range_with_len 0 width)))

-- the columns are those at the first so many places, of these rows
pub record Gathered (types : List Ty) (rows : List (List Value)) (columns : List Column) (i : ℕ) : Type 0 where
  pub values : map column_values columns ≡ map (column_in rows) (range_with_len 0 i)
  pub types_are : map column_type columns ≡ take i types

pub Gathered-more : (types : List Ty) (rows : List (List Value)) (columns : List Column) (i : ℕ) (column : Column) → i < length types → column_values column ≡ column_in rows i → slice_get types i ≡ Some (column_type column) → Gathered types rows columns i → Gathered types rows (columns ++ column ∷ []) (i + 1)
Gathered-more types rows columns i column below values ty so_far =
    let next : column_type column ≡ get_or types i (column_type column) = sym (get_or_from_slice_get types i (column_type column) (column_type column) ty) in
    record {
      values = rw (map_push column_values columns column, map-range_with_len_more (column_in rows) 0 i i (zero-add i), so_far.values, values);
      types_are = rw (map_push column_type columns column, take_more types i (column_type column) below, so_far.types_are, ← next);
    }

-- each has a value of each row
pub Gathered-sized : (types : List Ty) (rows : List (List Value)) (columns : List Column) (i n : ℕ) → n ≡ length rows → Gathered types rows columns i → All (λ column. length (column_values column) ≡ n) columns
Gathered-sized types rows columns i n long gathered k d below =
    let count : length columns ≡ i = sym (length-map columns column_values) ∙ ap length gathered.values ∙ length-map-range_with_len (column_in rows) 0 i in
    let here : column_values (get_or columns k d) ≡ column_in rows k =
    sym (get_or-map column_values columns k d) ∙ ap (λ all. get_or all k (column_values d)) gathered.values
    ∙ get_or-map-range_with_len (column_in rows) 0 i k k (column_values d) (omega (arith, count)) (zero-add k) in
    ap length here ∙ length-map rows (λ row. get_or row k Null) ∙ sym long

-- and over all of them stand the rows
pub Gathered-rows : (types : List Ty) (rows : List (List Value)) (columns : List Column) (i n : ℕ) → i ≡ length types → n ≡ length rows → All (λ row. length row ≡ length types) rows → Gathered types rows columns i → transpose Null n (map column_values columns) ≡ rows
Gathered-rows types rows columns i n done long wide gathered =
    ap (transpose Null n) (gathered.values ∙ ap (λ m. map (column_in rows) (range_with_len 0 m)) done)
    ∙ ap (λ m. transpose Null m (map (column_in rows) (range_with_len 0 (length types)))) long ∙ columns_back (length types) rows wide

pub Gathered-types : (types : List Ty) (rows : List (List Value)) (columns : List Column) (i : ℕ) → i ≡ length types → Gathered types rows columns i → map column_type columns ≡ types
Gathered-types types rows columns i done gathered = gathered.types_are ∙ take_all i types (omega (arith, done))

-- a row of a batch has a value of each column
length-row : (batch : Batch) (i : ℕ) → i < batch.rows → length (row_at batch i) ≡ length batch.columns.items
length-row batch i below =
    ap length (get_or-transpose Null batch.rows i (columns_of batch) [] below)
    ∙ length-map (columns_of batch) (λ column. get_or column i Null) ∙ length-map batch.columns.items column_values

wide_there : (runs : List Batch) (types : List Ty) (place : Place) → All (λ run. types_of run ≡ types) runs → is_there runs place ≡ true → length (row_there runs place) ≡ length types
wide_there runs types place alike there =
    elim (slice_get_cases runs place.run).1 [
      | inl found ↦
          let run = found.0 in
          let same : types_of run ≡ types = subst (λ one. types_of one ≡ types) found.3 (alike place.run run found.1) in
          ap length (row_is runs place run found.2)
          ∙ length-row run place.row (row_within runs place run found.2 there) ∙ length-columns run types same
      | inr past ↦ absurd (true≢false (sym there ∙ ap (λ found. has_in found place.row) past.1))
    ]

pub wide_all : (runs : List Batch) (types : List Ty) (places : List Place) → All (λ run. types_of run ≡ types) runs → AreThere runs places → All (λ row. length row ≡ length types) (map (row_there runs) places)
wide_all runs types places alike there =
    All-map (λ row. length row ≡ length types) (row_there runs) places (λ k d below. wide_there runs types (get_or places k d) alike (there k d below))

-- one more value of a column
pub column_more : (runs : List Batch) (places : List Place) (k index : ℕ) (d : Place) (run : Batch) (old new : List Value) → k < length places → slice_get runs (get_or places k d).run ≡ Some run
    → new ≡ old ++ get_or (row_at run (get_or places k d).row) index Null ∷ [] → old ≡ column_in (map (row_there runs) (take k places)) index → new ≡ column_in (map (row_there runs) (take (k + 1) places)) index
column_more runs places k index d run old new below is more so_far =
    let front = take k places in
    let place = get_or places k d in
    more ∙ ap (λ values. values ++ get_or (row_at run place.row) index Null ∷ []) so_far
    ∙ ap (λ row. column_in (map (row_there runs) front) index ++ get_or row index Null ∷ []) (sym (row_is runs place run is))
    ∙ sym (map_push (λ row. get_or row index Null) (map (row_there runs) front) (row_there runs place))
    ∙ ap (λ rows. column_in rows index) (sym (map_push (row_there runs) front place))
    ∙ ap (λ some. column_in (map (row_there runs) some) index) (sym (take_more places k d below))
