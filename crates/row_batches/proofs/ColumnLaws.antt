-- The columns of rows that fit their types.
use Rattle.std.proofs.Common.{◌≡◌, ◌∙◌, sym, ap, refl, ℕ, ◌+◌, ◌<◌, suc, zero, List, [], ◌∷◌, ◌++◌, length, get_or, take, zero-add, map, arith}
use Rattle.std.specs.List.{All, range_with_len}
use Rattle.std.proofs.Math.ListN.{get_or-map}
use Rattle.std.proofs.lemmas.List.{length-map, map_push, take_more, take_all}
use Rattle.std.proofs.lemmas.List.FromFn.{fill_by_all, map-range_with_len_more}
use Rattle.std.proofs.lemmas.List.Elements.{All-nil, All-push, All-weaker}
use Rattle.sub_types.specs.declared.kind.Ty.{Ty}
use Rattle.sub_types.specs.declared.value.Value.{Value}
use Rattle.sub_types.specs.declared.value.Value.TheVariants.{Null}
use Rattle.sub_types.specs.Value.{Fits}
use Rattle.sub_types.specs.Rows.{across, transpose}
use Rattle.batch.specs.declared.column.Column.{Column}
use Rattle.batch.specs.Column.{column_values, column_type}
use Rattle.batch.proofs.RowLaws.{transpose-from}
use Rattle.row_batches.specs.Parts.{value_in, HoldsAt}

-- a row that fits has a value for each type
pub fits-long : (types : List Ty) (row : List Value) → Fits types row → length row ≡ length types
fits-long [] [] fits = refl
fits-long (ty ∷ types) (value ∷ row) fits = ap suc (fits-long types row fits.1)
fits-long [] (value ∷ row) fits = absurd fits
fits-long (ty ∷ types) [] fits = absurd fits

-- of each type's kind
fits-at : (types : List Ty) (row : List Value) (i : ℕ) (d : Ty) → i < length types → Fits types row → HoldsAt i (get_or types i d).kind row
fits-at (ty ∷ types) (value ∷ row) zero d below fits = (omega arith, fits.0.in_kind)
fits-at (ty ∷ types) (value ∷ row) (suc i) d below fits = let rest = fits-at types row i d (omega arith) fits.1 in (omega (arith, rest.0), rest.1)
fits-at [] row i d below fits = absurd (omega arith)
fits-at (ty ∷ types) [] i d below fits = absurd fits

pub all-fit-at : (types : List Ty) (rows : List (List Value)) (i : ℕ) (d : Ty) → i < length types → All (Fits types) rows → All (HoldsAt i (get_or types i d).kind) rows
all-fit-at types rows i d below fit = All-weaker (Fits types) (HoldsAt i (get_or types i d).kind) (λ row fits. fits-at types row i d below fits) rows fit

-- the row over the columns at these places
across-columns : (rows : List (List Value)) (i : ℕ) (places : List ℕ) → across Null (map (λ j. map (value_in j) rows) places) i ≡ map (λ j. get_or (get_or rows i []) j Null) places
across-columns rows i [] = refl
across-columns rows i (j ∷ places) =
    let row = get_or rows i [] in
    ap (λ value. value ∷ across Null (map (λ j. map (value_in j) rows) places) i) (get_or-map (value_in j) rows i []) ∙ ap (λ rest. get_or row j Null ∷ rest) (across-columns rows i places)

-- all places
row-whole : (row : List Value) (width : ℕ) → length row ≡ width → map (λ j. get_or row j Null) (range_with_len 0 width) ≡ row
row-whole row width long = sym (fill_by_all (λ j. get_or row j Null) row width Null long (λ k below. refl))

-- the rows over all columns
transpose-columns : (types : List Ty) (rows : List (List Value)) → All (Fits types) rows → transpose Null (length rows) (map (λ j. map (value_in j) rows) (range_with_len 0 (length types))) ≡ rows
transpose-columns types rows fit =
    transpose-from Null (length rows) (map (λ j. map (value_in j) rows) (range_with_len 0 (length types))) rows refl
    (λ i below. sym (across-columns rows i (range_with_len 0 (length types)) ∙ row-whole (get_or rows i []) (length types) (fits-long types (get_or rows i []) (fit i [] below))))

-- the columns at the first so many places
pub record MadeColumns (types : List Ty) (rows : List (List Value)) (columns : List Column) (i : ℕ) : Type 0 where
  pub values : map column_values columns ≡ map (λ j. map (value_in j) rows) (range_with_len 0 i)
  pub types_are : map column_type columns ≡ take i types
  pub sized : All (λ column. length (column_values column) ≡ length rows) columns

-- none
pub MadeColumns-none : (types : List Ty) (rows : List (List Value)) → MadeColumns types rows [] 0
MadeColumns-none types rows = record { values = refl; types_are = refl; sized = All-nil (λ column. length (column_values column) ≡ length rows) }

-- one more
pub MadeColumns-more : (types : List Ty) (rows : List (List Value)) (columns : List Column) (i : ℕ) (column : Column) (d : Ty)
    → i < length types → column_values column ≡ map (value_in i) rows → column_type column ≡ get_or types i d → MadeColumns types rows columns i → MadeColumns types rows (columns ++ column ∷ []) (i + 1)
MadeColumns-more types rows columns i column d below values ty so_far = record {
  values = rw (map_push column_values columns column, map-range_with_len_more (λ j. map (value_in j) rows) 0 i i (zero-add i), so_far.values, values);
  types_are = rw (map_push column_type columns column, take_more types i d below, so_far.types_are, ty);
  sized = All-push (λ column. length (column_values column) ≡ length rows) columns column so_far.sized (ap length values ∙ length-map rows (value_in i));
}

-- all of them give the rows
pub MadeColumns-rows : (types : List Ty) (rows : List (List Value)) (columns : List Column) (i : ℕ) → i ≡ length types → All (Fits types) rows → MadeColumns types rows columns i → transpose Null (length rows) (map column_values columns) ≡ rows
MadeColumns-rows types rows columns i done fit made =
    ap (transpose Null (length rows)) (made.values ∙ ap (λ n. map (λ j. map (value_in j) rows) (range_with_len 0 n)) done) ∙ transpose-columns types rows fit

pub MadeColumns-types : (types : List Ty) (rows : List (List Value)) (columns : List Column) (i : ℕ) → i ≡ length types → MadeColumns types rows columns i → map column_type columns ≡ types
MadeColumns-types types rows columns i done made = made.types_are ∙ take_all i types (omega arith)
