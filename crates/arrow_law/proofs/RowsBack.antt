-- The columns of rows, and rows of columns.
use Rattle.std.proofs.Common.{◌≡◌, ◌∙◌, ℕ, zero, suc, ◌+◌, ◌*◌, ◌/◌, ◌<◌, ◌≤◌, max, List, [], ◌∷◌, ◌++◌, length, get_or, map, take, drop, refl, sym, ap, subst, arith, append_assoc, length-append, zero-add}
use Rattle.std.specs.List.{range_with_len, enumerate_from, flat_map, All}
use Rattle.std.proofs.lemmas.List.{get_or-map, get_or_at, take_all, drop-drop, length-take}
use Rattle.std.proofs.lemmas.List.Elements.{All-weaker, All-map, All-take, All-drop}
use Rattle.std.proofs.lemmas.List.FromFn.{fill_by_all, length-map-range_with_len, length-enumerate_from, get_or-enumerate_from}
use Rattle.std.proofs.Math.Seq.{take-add}
use Rattle.std.proofs.Math.Nat.{mul-suc, mul-zero, mul-add}
use Rattle.sub_types.specs.Rows.{across, transpose}
use Rattle.sub_types.specs.Value.{Fits, FitsTy}
use Rattle.sub_types.specs.declared.kind.Ty.{Ty}
use Rattle.sub_types.specs.declared.value.Value.{Value}
use Rattle.sub_types.specs.declared.value.Value.TheVariants as values
use Rattle.arrow_meta.specs.Buffers.{column_at}
use Rattle.arrow_meta.specs.File.{batches}

-- the columns of rows, from the one at i on
abbrev pub columns_from : ℕ → List Ty → List (List Value) → List (List Value)
columns_from i types rows = map (λ column. column_at column.0 rows) (enumerate_from i types)

-- the values of a column fit its type
abbrev pub ColumnFits : List (List Value) → ℕ × Ty → Type 0
ColumnFits rows column = All (FitsTy column.1) (column_at column.0 rows)

value_fits : (types : List Ty) (row : List Value) (k : ℕ) (d : Ty) → Fits types row → k < length types → FitsTy (get_or types k d) (get_or row k values.Null)
value_fits [] row k d fits below = absurd (omega arith)
value_fits (ty ∷ types) [] k d fits below = absurd fits
value_fits (ty ∷ types) (value ∷ row) zero d fits below = fits.0
value_fits (ty ∷ types) (value ∷ row) (suc k) d fits below = value_fits types row k d fits.1 (omega arith)

pub columns_fit : (types : List Ty) (rows : List (List Value)) → All (Fits types) rows → All (ColumnFits rows) (enumerate_from 0 types)
columns_fit types rows fits = λ k d below.
    let within : k < length types = omega (arith, below, length-enumerate_from 0 types) in
    let ty : Ty = get_or types k d.1 in
    let there : get_or (enumerate_from 0 types) k d ≡ (k, ty) = get_or-enumerate_from 0 types k d within ∙ ap {B = ℕ × Ty} (λ n. (n, ty)) (zero-add k) in
    let value : List Value → Value = λ row. get_or row k values.Null in
    subst (ColumnFits rows) (sym there) (All-map (FitsTy ty) value rows (All-weaker (Fits types) (λ row. FitsTy ty (value row)) (λ row fit. value_fits types row k d.1 fit within) rows fits))

-- the row at a place
across_columns : (rows : List (List Value)) (k : ℕ) (columns : List (ℕ × Ty)) → k < length rows
    → across values.Null (map (λ column. column_at column.0 rows) columns) k ≡ map (λ column. get_or (get_or rows k []) column.0 values.Null) columns
across_columns rows k [] below = refl
across_columns rows k (column ∷ columns) below =
    ap (λ value. value ∷ across values.Null (map (λ other. column_at other.0 rows) columns) k) (get_or-map (λ row. get_or row column.0 values.Null) rows k [] values.Null below)
    ∙ ap (λ rest. get_or (get_or rows k []) column.0 values.Null ∷ rest) (across_columns rows k columns below)

row_back : (types : List Ty) (front row : List Value) (i : ℕ) → length front ≡ i → Fits types row → map (λ column. get_or (front ++ row) column.0 values.Null) (enumerate_from i types) ≡ row
row_back [] front [] i long fits = refl
row_back [] front (value ∷ row) i long fits = absurd fits
row_back (ty ∷ types) front [] i long fits = absurd fits
row_back (ty ∷ types) front (value ∷ row) i long fits =
    let picked : List Value → List Value = λ all. map (λ column. get_or all column.0 values.Null) (enumerate_from (i + 1) types) in
    let longer : length (front ++ value ∷ []) ≡ i + 1 = length-append front (value ∷ []) ∙ omega (arith, long) in
    ap (λ first. first ∷ picked (front ++ value ∷ row)) (get_or_at front value row values.Null i long)
    ∙ ap (λ all. value ∷ picked all) (sym (append_assoc front (value ∷ []) row))
    ∙ ap (λ rest. value ∷ rest) (row_back types (front ++ value ∷ []) row (i + 1) longer fits.1)

across_row : (types : List Ty) (rows : List (List Value)) (k : ℕ) → k < length rows → All (Fits types) rows → across values.Null (columns_from 0 types rows) k ≡ get_or rows k []
across_row types rows k below fits = across_columns rows k (enumerate_from 0 types) below ∙ row_back types [] (get_or rows k []) 0 refl (fits k [] below)

-- the columns as rows
pub transpose_back : (types : List Ty) (rows : List (List Value)) → All (Fits types) rows → transpose values.Null (length rows) (columns_from 0 types rows) ≡ rows
transpose_back types rows fits =
    sym (fill_by_all (across values.Null (columns_from 0 types rows)) rows (length rows) [] refl (λ k below. sym (across_row types rows k below fits)))

-- parts of a list, one after the other
parts_back : {A : Type 0} (size : ℕ) (xs : List A) (start n : ℕ)
    → flat_map (λ part. part) (map (λ k. take size (drop (size * k) xs)) (range_with_len start n)) ≡ take (size * n) (drop (size * start) xs)
parts_back size xs start zero = rw (mul-zero size) refl
parts_back size xs start (suc n) =
    let rest = parts_back size xs (start + 1) n in
    let next : size * (start + 1) ≡ size * start + size = omega (arith, mul-add size start 1) in
    let ys = drop (size * start) xs in
    let behind : drop (size * (start + 1)) xs ≡ drop size ys = ap (λ m. drop m xs) next ∙ sym (drop-drop size (size * start) xs) in
    let all : size * suc n ≡ size + size * n = omega (arith, mul-suc size n) in
    ap (λ back. take size ys ++ back) (rest ∙ ap (take (size * n)) behind) ∙ sym (take-add size (size * n) ys) ∙ ap (λ m. take m ys) (sym all)

-- all batches are all rows
pub batches_back : (rows : List (List Value)) → flat_map (λ batch. batch) (batches rows) ≡ rows
unfolding batches
batches_back rows =
    let n : ℕ = max 1 ((length rows + 1023) / 1024) in
    let enough : length rows ≤ 1024 * n = omega arith in
    parts_back 1024 rows 0 n ∙ take_all (1024 * n) rows enough

-- a batch has at most 1,024 rows, which fit
pub batches_short : (rows : List (List Value)) → All (λ batch. length batch ≤ 1024) (batches rows)
unfolding batches
batches_short rows =
    let batch = λ (k : ℕ). take 1024 (drop (1024 * k) rows) in
    let P : List (List Value) → Type 0 = λ rows. length rows ≤ 1024 in
    All-map P batch (range_with_len 0 (max 1 ((length rows + 1023) / 1024))) (λ i d below. omega (arith, length-take 1024 (drop (1024 * get_or (range_with_len 0 (max 1 ((length rows + 1023) / 1024))) i d) rows)))

pub batches_fit : (types : List Ty) (rows : List (List Value)) → All (Fits types) rows → All (λ batch. All (Fits types) batch) (batches rows)
unfolding batches
batches_fit types rows fits =
    let batch = λ (k : ℕ). take 1024 (drop (1024 * k) rows) in
    let P : List (List Value) → Type 0 = λ rows. All (Fits types) rows in
    let places : List ℕ = range_with_len 0 (max 1 ((length rows + 1023) / 1024)) in
    All-map P batch places (λ i d below. All-take (Fits types) 1024 (drop (1024 * get_or places i d) rows) (All-drop (Fits types) (1024 * get_or places i d) rows fits))

-- there is a batch
pub some_batch : (rows : List (List Value)) → 1 ≤ length (batches rows)
unfolding batches
some_batch rows =
    let n : ℕ = max 1 ((length rows + 1023) / 1024) in
    let long = length-map-range_with_len (λ k. take 1024 (drop (1024 * k) rows)) 0 n in omega (arith, long)
