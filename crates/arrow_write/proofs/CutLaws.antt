-- Parts of batches that follow one another, as a part of all rows or of all columns.
use Rattle.std.proofs.Common.{◌≡◌, ◌+◌, ◌-◌, ◌<◌, ◌≤◌, ◌∙◌, ℕ, zero, suc, List, [], ◌∷◌, ◌++◌, length, map, get_or, take, drop, Some, slice_get, zero-add, sym, ap, refl, subst, arith, ⊎_elim, append-nil}
use Rattle.std.specs.List.{All, flat_map, sum_by, slice_range, range_with_len}
use Rattle.std.proofs.Math.ListN.{get_or-map}
use Rattle.std.proofs.lemmas.Bool.{cases_lt}
use Rattle.std.proofs.lemmas.List.{length-map, length-drop, take_all, take_more, take-take, drop-take, take-append-drop, take-append-le, drop-append-le, drop-drop, drop_at, map_push}
use Rattle.std.proofs.lemmas.List.{get_or-map as get_or-map_within}
use Rattle.std.proofs.lemmas.List.Sums.{sum_by-cons, sum_by_push, sum_by_more}
use Rattle.std.proofs.lemmas.List.Elements.{All-head, All-tail, All-map}
use Rattle.std.proofs.lemmas.List.FromFn.{length-map-range_with_len, get_or-map-range_with_len, map-range_with_len_more, fill_by_all}
use Rattle.std.proofs.lemmas.Option.{get_or_from_slice_get}
use Rattle.sub_types.specs.PartLaws.{length-part}
use Rattle.sub_types.specs.Rows.{transpose}
use Rattle.sub_types.specs.Kind.{IsKind}
use Rattle.sub_types.specs.declared.kind.Ty.{Ty}
use Rattle.sub_types.specs.declared.value.Value.{Value}
use Rattle.sub_types.specs.declared.value.Value.TheVariants.{Null}
use Rattle.batch.specs.declared.batch.Batch.{Batch}
use Rattle.batch.specs.declared.column.Column.{Column}
use Rattle.batch.specs.Column.{column_values, column_type}
use Rattle.batch.specs.BatchRows.{columns_of, column_of, types_of, rows_of}
use Rattle.batch.proofs.RowLaws.{length-transpose, transpose-part}
use Rattle.batch.proofs.JoinLaws.{length-column_of, length-joined, rows-joined}
use Rattle.arrow_write.specs.declared.cursor.Part.{Part}
use Rattle.arrow_write.specs.Cut.{rows_in, place_of_row, rows_at, IsPartOf, IsWhole, rows_of_part, Follow, AreRows, place_of_parts, part_of}

-- the rows of the batch at a place
pub rows_at-item : (batches : List Batch) (i : ℕ) (batch : Batch) → i < length batches → batch ≡ get_or batches i batch → rows_at batches i ≡ batch.rows
rows_at-item batches i batch below here = get_or-map_within (λ b. b.rows) batches i batch 0 below ∙ ap (λ b. b.rows) (sym here)

pub rows_in-more : (batches : List Batch) (i : ℕ) (batch : Batch) → i < length batches → batch ≡ get_or batches i batch → rows_in (take (i + 1) batches) ≡ rows_in (take i batches) + batch.rows
rows_in-more batches i batch below here = sum_by_more (λ b. b.rows) batches i batch below ∙ ap (λ b. rows_in (take i batches) + b.rows) (sym here)

-- a place before the end lies in a batch
pub batch_there : (batches : List Batch) (i row n : ℕ) → place_of_row batches i row + n ≤ rows_in batches → 0 < n → i < length batches
batch_there batches i row n enough some =
    ⊎_elim (λ (early : i < length batches). early)
    (λ (late : length batches ≤ i). let all : rows_in (take i batches) ≡ rows_in batches = ap rows_in (take_all i batches late) in absurd (omega arith))
    (cases_lt i (length batches))

-- a list for each batch has an entry for each row
abbrev pub Sized : {X : Type 0} → (Batch → List X) → List Batch → Type 0
Sized f batches = All (λ batch. length (f batch) ≡ batch.rows) batches

take_add : {X : Type 0} (n m : ℕ) (xs : List X) → take (n + m) xs ≡ take n xs ++ take m (drop n xs)
take_add n m xs =
    sym (take-append-drop n (take (n + m) xs)) ∙ ap (λ front. front ++ drop n (take (n + m) xs)) (take-take n (n + m) xs (omega arith)) ∙ ap (λ back. take n xs ++ back) (drop-take n m xs)

drop_past : {X : Type 0} (xs ys : List X) (n k : ℕ) → length xs ≡ n → drop (n + k) (xs ++ ys) ≡ drop k ys
drop_past xs ys n k long = sym (drop-drop k n (xs ++ ys)) ∙ ap (drop k) (drop_at xs ys n long)

-- the part of all that lies in one batch
take_part : {X : Type 0} (f : Batch → List X) (batches : List Batch) (i row n : ℕ) → Sized f batches → row + n ≤ rows_at batches i
    → take n (drop (place_of_row batches i row) (flat_map f batches)) ≡ slice_range (get_or (map f batches) i []) row (row + n)
take_part {X} f [] i row n sized within =
    let none : n ≡ 0 = omega arith in
    let same : row + n - row ≡ 0 = omega arith in
    ap (λ k. take k (drop (place_of_row [] i row) (flat_map f []))) none ∙ sym (ap (λ k. take {A = X} k (drop row [])) same)
take_part f (batch ∷ batches) zero row n sized within =
    let here = All-head (λ b. length (f b) ≡ b.rows) batch batches sized in
    let rest = flat_map f batches in
    let place : place_of_row (batch ∷ batches) 0 row ≡ row = omega arith in
    let count : row + n - row ≡ n = omega arith in
    ap (λ k. take n (drop k (f batch ++ rest))) place ∙ ap (take n) (drop-append-le row (f batch) rest (omega arith))
    ∙ take-append-le n (drop row (f batch)) rest (omega (arith, length-drop row (f batch))) ∙ sym (ap (λ k. take k (drop row (f batch))) count)
take_part f (batch ∷ batches) (suc i) row n sized within =
    let here = All-head (λ b. length (f b) ≡ b.rows) batch batches sized in
    let rest = flat_map f batches in
    let place : place_of_row (batch ∷ batches) (suc i) row ≡ batch.rows + place_of_row batches i row = omega (arith, sum_by-cons (λ b. b.rows) batch (take i batches)) in
    ap (λ k. take n (drop k (f batch ++ rest))) place ∙ ap (take n) (drop_past (f batch) rest batch.rows (place_of_row batches i row) here)
    ∙ take_part f batches i row n (All-tail (λ b. length (f b) ≡ b.rows) batch batches sized) within

-- parts that follow one another are a part of all
parts-of-all : {X : Type 0} (f : Batch → List X) (batches : List Batch) (place : ℕ) (parts : List Part) → Sized f batches → All (IsPartOf batches) parts → Follow batches place parts
    → flat_map (part_of f batches) parts ≡ take (sum_by rows_of_part parts) (drop place (flat_map f batches))
parts-of-all f batches place [] sized lie follow = refl
parts-of-all f batches place (part ∷ parts) sized lie follow =
    let all = flat_map f batches in
    let here = All-head (IsPartOf batches) part parts lie in
    let n = rows_of_part part in
    let to : part.from + n ≡ part.to = omega (arith, here.rising) in
    let first : part_of f batches part ≡ take n (drop place all) =
    ap (slice_range (get_or (map f batches) part.batch []) part.from) (sym to) ∙ sym (take_part f batches part.batch part.from n sized (omega (arith, here.within, here.rising)))
    ∙ ap (λ k. take n (drop k all)) follow.0 in
    let rest = parts-of-all f batches (place + n) parts sized (All-tail (IsPartOf batches) part parts lie) follow.1 in
    ap (λ front. front ++ flat_map (part_of f batches) parts) first ∙ ap (λ back. take n (drop place all) ++ back) (rest ∙ ap (take (sum_by rows_of_part parts)) (sym (drop-drop n place all)))
    ∙ sym (take_add n (sum_by rows_of_part parts) (drop place all)) ∙ ap (λ k. take k (drop place all)) (sym (sum_by-cons rows_of_part part parts))

pub parts-of-rows : {X : Type 0} (f : Batch → List X) (batches : List Batch) (place count : ℕ) (parts : List Part) → Sized f batches → All (IsPartOf batches) parts → AreRows batches place count parts
    → flat_map (part_of f batches) parts ≡ take count (drop place (flat_map f batches))
parts-of-rows f batches place count parts sized lie rows = parts-of-all f batches place parts sized lie rows.follow ∙ ap (λ n. take n (drop place (flat_map f batches))) rows.count_is

-- parts with rows begin at the place of the first
pub place_of_parts-follow : (batches : List Batch) (place count : ℕ) (parts : List Part) → AreRows batches place count parts → 0 < count → place_of_parts batches parts ≡ place
place_of_parts-follow batches place count [] rows some = absurd (omega (arith, rows.count_is))
place_of_parts-follow batches place count (part ∷ parts) rows some = rows.follow.0

-- one part more
pub Follow-push : (batches : List Batch) (place : ℕ) (parts : List Part) (part : Part) → Follow batches place parts → place_of_row batches part.batch part.from ≡ place + sum_by rows_of_part parts → Follow batches place (parts ++ part ∷ [])
Follow-push batches place [] part follow next = (omega arith, tt)
Follow-push batches place (first ∷ parts) part follow next =
    (follow.0, Follow-push batches (place + rows_of_part first) parts part follow.1 (omega (arith, next, sum_by-cons rows_of_part first parts)))

pub rows_of_parts-push : (parts : List Part) (part : Part) → sum_by rows_of_part (parts ++ part ∷ []) ≡ sum_by rows_of_part parts + rows_of_part part
rows_of_parts-push parts part = sum_by_push rows_of_part parts part

-- the columns at the first so many places
pub record CutColumns (types : List Ty) (values_at : ℕ → List Value) (columns : List Column) (i : ℕ) : Type 0 where
  pub values : map column_values columns ≡ map values_at (range_with_len 0 i)
  pub types_are : map column_type columns ≡ take i types

pub CutColumns-more : (types : List Ty) (values_at : ℕ → List Value) (columns : List Column) (i : ℕ) (column : Column) → i < length types → column_values column ≡ values_at i → slice_get types i ≡ Some (column_type column) → CutColumns types values_at columns i → CutColumns types values_at (columns ++ column ∷ []) (i + 1)
CutColumns-more types values_at columns i column below values ty so_far =
    let next : column_type column ≡ get_or types i (column_type column) = sym (get_or_from_slice_get types i (column_type column) (column_type column) ty) in
    record {
      values = rw (map_push column_values columns column, map-range_with_len_more values_at 0 i i (zero-add i), so_far.values, values);
      types_are = rw (map_push column_type columns column, take_more types i (column_type column) below, so_far.types_are, ← next);
    }

-- the values at a place of the parts
abbrev pub cut_at : List Batch → List Part → ℕ → List Value
cut_at batches parts j = flat_map (part_of (column_of j) batches) parts

pub Sized-column : (types : List Ty) (batches : List Batch) (j : ℕ) → All (λ batch. types_of batch ≡ types) batches → j < length types → Sized (column_of j) batches
Sized-column types batches j alike below = λ k d h. length-column_of (get_or batches k d) types j (alike k d h) below

cut_is : (types : List Ty) (batches : List Batch) (parts : List Part) (place count j : ℕ) → All (λ batch. types_of batch ≡ types) batches → All (IsPartOf batches) parts → AreRows batches place count parts → j < length types
    → cut_at batches parts j ≡ slice_range (flat_map (column_of j) batches) place (place + count)
cut_is types batches parts place count j alike lie rows below =
    let n : count ≡ place + count - place = omega arith in
    parts-of-rows (column_of j) batches place count parts (Sized-column types batches j alike below) lie rows ∙ ap (λ k. take k (drop place (flat_map (column_of j) batches))) n

pub CutColumns-sized : (types : List Ty) (batches : List Batch) (parts : List Part) (place count : ℕ) (columns : List Column) (i : ℕ) → i ≡ length types → All (λ batch. types_of batch ≡ types) batches → All (IsPartOf batches) parts
    → AreRows batches place count parts → place + count ≤ rows_in batches → CutColumns types (cut_at batches parts) columns i → All (λ column. length (column_values column) ≡ count) columns
CutColumns-sized types batches parts place count columns i done alike lie rows enough cut k d below =
    let many : length columns ≡ length types = sym (length-map columns column_values) ∙ ap length cut.values ∙ length-map-range_with_len (cut_at batches parts) 0 i ∙ done in
    let here : column_values (get_or columns k d) ≡ cut_at batches parts k =
    sym (get_or-map column_values columns k d) ∙ ap (λ all. get_or all k (column_values d)) cut.values ∙ get_or-map-range_with_len (cut_at batches parts) 0 i k k (column_values d) (omega (arith, many)) (zero-add k) in
    let inside : k < length types = omega (arith, many) in
    let whole = flat_map (column_of k) batches in
    ap length (here ∙ cut_is types batches parts place count k alike lie rows inside)
    ∙ length-part whole place (place + count) (omega (arith, enough, length-joined types k batches alike inside)) ∙ omega arith

same_map : {X : Type 0} (f g : ℕ → X) (n : ℕ) (d : X) → ((k : ℕ) → k < n → f k ≡ g k) → map f (range_with_len 0 n) ≡ map g (range_with_len 0 n)
same_map f g n d same = fill_by_all g (map f (range_with_len 0 n)) n d (length-map-range_with_len f 0 n) (λ k h. get_or-map-range_with_len f 0 n k k d h (zero-add k) ∙ same k h)

map-map : {X Y Z : Type 0} (f : Y → Z) (g : X → Y) (xs : List X) → map f (map g xs) ≡ map (λ x. f (g x)) xs
map-map f g [] = refl
map-map f g (x ∷ xs) = ap (λ rest. f (g x) ∷ rest) (map-map f g xs)

pub CutColumns-rows : (types : List Ty) (batches : List Batch) (parts : List Part) (place count : ℕ) (columns : List Column) (i : ℕ) → i ≡ length types → All (λ batch. types_of batch ≡ types) batches → All (IsPartOf batches) parts
    → AreRows batches place count parts → place + count ≤ rows_in batches → CutColumns types (cut_at batches parts) columns i → transpose Null count (map column_values columns) ≡ take count (drop place (flat_map rows_of batches))
CutColumns-rows types batches parts place count columns i done alike lie rows enough cut =
    let js = range_with_len 0 (length types) in
    let whole = λ (j : ℕ). flat_map (column_of j) batches in
    let cut_column = λ (column : List Value). slice_range column place (place + count) in
    let n : place + count - place ≡ count = omega arith in
    let values : map column_values columns ≡ map cut_column (map whole js) =
    cut.values ∙ ap (λ m. map (cut_at batches parts) (range_with_len 0 m)) done
    ∙ same_map (cut_at batches parts) (λ j. cut_column (whole j)) (length types) [] (λ j below. cut_is types batches parts place count j alike lie rows below) ∙ sym (map-map cut_column whole js) in
    ap (transpose Null count) values ∙ ap (λ m. transpose Null m (map cut_column (map whole js))) (sym n)
    ∙ transpose-part Null (rows_in batches) (map whole js) place (place + count) (omega arith) enough
    ∙ ap (λ all. slice_range all place (place + count)) (rows-joined types batches alike) ∙ ap (λ m. take m (drop place (flat_map rows_of batches))) n

-- the types of a batch are of kinds
kinds-of-columns : (columns : List Column) → All (λ (ty : Ty). IsKind ty.kind) (map column_type columns)
kinds-of-columns columns = All-map (λ (ty : Ty). IsKind ty.kind) column_type columns (λ k e below. (get_or columns k e).valid_kind)

pub kinds-of-batches : (types : List Ty) (batches : List Batch) → All (λ batch. types_of batch ≡ types) batches → 0 < length batches → All (λ (ty : Ty). IsKind ty.kind) types
kinds-of-batches types [] alike some = absurd (omega arith)
kinds-of-batches types (batch ∷ batches) alike some =
    subst (λ ts. All (λ (ty : Ty). IsKind ty.kind) ts) (All-head (λ b. types_of b ≡ types) batch batches alike) (kinds-of-columns batch.columns.items)

-- a part that is a whole batch has all that a list has for the batch
pub Sized-rows : (batches : List Batch) → Sized rows_of batches
Sized-rows batches = λ k d below. let batch = get_or batches k d in length-transpose Null batch.rows (columns_of batch)

whole_rows : (batches : List Batch) (parts : List Part) (i : ℕ) (d : Batch) → IsWhole batches parts i → flat_map (part_of rows_of batches) parts ≡ rows_of (get_or batches i d)
whole_rows batches [] i d whole = absurd (omega (arith, whole.alone))
whole_rows batches (part ∷ next ∷ parts) i d whole = absurd (omega (arith, whole.alone))
whole_rows batches (part ∷ []) i d whole =
    let batch = get_or batches i d in
    let rows = rows_of batch in
    let here : get_or (map rows_of batches) i [] ≡ rows = get_or-map_within rows_of batches i d [] whole.exists in
    let size : rows_at batches i ≡ length rows = get_or-map_within (λ b. b.rows) batches i d 0 whole.exists ∙ sym (length-transpose Null batch.rows (columns_of batch)) in
    append-nil (part_of rows_of batches part) ∙ ap (λ k. slice_range (get_or (map rows_of batches) k []) part.from part.to) (whole.batch part) ∙ ap (λ xs. slice_range xs part.from part.to) here
    ∙ ap (λ k. slice_range rows k part.to) (whole.from part) ∙ ap (λ k. slice_range rows 0 k) (whole.to part) ∙ take_all (rows_at batches i - 0) rows (omega (arith, size))

pub rows-of-whole : (batches : List Batch) (parts : List Part) (place count i : ℕ) (batch : Batch) → All (IsPartOf batches) parts → AreRows batches place count parts → IsWhole batches parts i → batch ≡ get_or batches i batch
    → rows_of batch ≡ take count (drop place (flat_map rows_of batches))
rows-of-whole batches parts place count i batch lie rows whole here =
    ap rows_of here ∙ sym (whole_rows batches parts i batch whole) ∙ parts-of-rows rows_of batches place count parts (Sized-rows batches) lie rows
