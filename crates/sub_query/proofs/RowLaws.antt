-- Rows of batches one after the other.
use Rattle.std.proofs.Common.{◌≡◌, ◌∙◌, ℕ, ◌+◌, ◌<◌, List, [], ◌∷◌, ◌++◌, Bool, true, false, Ok, Err, ◌⊎◌, map, take, length, get_or, refl, sym, ap, subst, inl, inr, append_assoc, append-nil, arith}
use Rattle.std.specs.List.{flat_map, range_with_len}
use Rattle.std.proofs.lemmas.Grind.{flat_map-append}
use Rattle.std.proofs.lemmas.List.{take_more, map-append}
use Rattle.std.proofs.lemmas.List.FromFn.{get_or-map-range_with_len, length-map-range_with_len}
use Rattle.std.proofs.lemmas.List.Folds.{length-flat_map-take}
use Rattle.sub_types.specs.Rows.{across}
use Rattle.sub_types.specs.declared.fault.FaultKind.TheVariants as faults
use Rattle.sub_types.specs.declared.value.Value.{Value}
use Rattle.sub_types.specs.declared.value.Value.TheVariants.{Null}
use Rattle.batch.specs.BatchRows.{rows_of, columns_of}
use Rattle.batch.specs.Column.{column_values}
use Rattle.batch.specs.declared.batch.Batch.{Batch}
use Rattle.plan_denote.specs.Rows.{Row, fault_at, is_empty}
use Rattle.plan_denote.specs.Subqueries.{Single, single, value_in}

-- a batch has as many rows as it says
pub rows_long : (batch : Batch) → length (rows_of batch) ≡ batch.rows
rows_long batch = length-map-range_with_len (across Null (columns_of batch)) 0 batch.rows

-- no row was found, or one with this first value
pub data IsFound : Bool → Value → List Row → Type 0 where
  None : IsFound false Null []
  One : (row : Row) → IsFound true (value_in row) (row ∷ [])

-- the rows of one batch more
pub more_rows : (batches : List Batch) (i : ℕ) (d : Batch) → i < length batches → flat_map rows_of (take (i + 1) batches) ≡ flat_map rows_of (take i batches) ++ rows_of (get_or batches i d)
more_rows batches i d below =
    ap (flat_map rows_of) (take_more batches i d below) ∙ flat_map-append rows_of (take i batches) (get_or batches i d ∷ [])
    ∙ ap (λ rest. flat_map rows_of (take i batches) ++ rest) (append-nil (rows_of (get_or batches i d)))

-- a batch with no rows
pub no_rows : (batch : Batch) → batch.rows ≡ 0 → rows_of batch ≡ []
no_rows batch none = ap (λ n. map (across Null (columns_of batch)) (range_with_len 0 n)) none

-- a batch with one row
pub one_row : (batch : Batch) → batch.rows ≡ 1 → rows_of batch ≡ get_or (rows_of batch) 0 [] ∷ []
one_row batch one = only (rows_of batch) (rows_long batch ∙ one)
  where
    only : (rows : List Row) → length rows ≡ 1 → rows ≡ get_or rows 0 [] ∷ []
    only [] is = absurd (omega arith)
    only (row ∷ []) is = refl
    only (row ∷ other ∷ rows) is = absurd (omega arith)

-- a row over no columns
pub no_columns : (batch : Batch) (row : ℕ) → row < batch.rows → batch.columns.items ≡ [] → Null ≡ value_in (get_or (rows_of batch) row [])
no_columns batch row below none =
    let found : get_or (rows_of batch) row [] ≡ across Null (columns_of batch) row = get_or-map-range_with_len (across Null (columns_of batch)) 0 batch.rows row row [] below (omega arith) in
    sym (ap value_in (found ∙ ap (λ columns. across Null (map column_values columns) row) none))

-- one row more
pub value_more : (rows : List Row) (row : ℕ) (front values new_values : List Value) (value : Value) → row < length rows → values ≡ front ++ map value_in (take row rows) → value ≡ value_in (get_or rows row []) → new_values ≡ values ++ value ∷ []
    → new_values ≡ front ++ map value_in (take (row + 1) rows)
value_more rows row front values new_values value below are is pushed =
    pushed ∙ ap (λ one. values ++ one ∷ []) is ∙ ap (λ many. many ++ value_in (get_or rows row []) ∷ []) are ∙ append_assoc front (map value_in (take row rows)) (value_in (get_or rows row []) ∷ [])
    ∙ ap (λ many. front ++ many) (sym (map-append value_in (take row rows) (get_or rows row [] ∷ []))) ∙ ap (λ some. front ++ map value_in some) (sym (take_more rows row [] below))

-- there is a row
pub some_rows : (batches : List Batch) (i : ℕ) (d : Batch) → i < length batches → 0 < (get_or batches i d).rows → is_empty (flat_map rows_of batches) ≡ false
some_rows batches i d below some =
    not_empty (flat_map rows_of batches) (omega (arith, length-flat_map-take rows_of batches i d below, rows_long (get_or batches i d)))
  where
    not_empty : (rows : List Row) → 0 < length rows → is_empty rows ≡ false
    not_empty [] long = absurd (omega arith)
    not_empty (row ∷ rows) long = refl

-- a scalar of what was found, and of more than one row
pub single_found : (number : ℕ) (is_found : Bool) (found : Value) (rows : List Row) → IsFound is_found found rows → Ok (Single found) ≡ single number rows
single_found number false found rows None = refl
single_found number true found rows (One row) = refl

single_many : (number : ℕ) (rows : List Row) → 1 < length rows → Err (fault_at number faults.ManyRows) ≡ single number rows
single_many number [] long = absurd (omega arith)
single_many number (row ∷ []) long = absurd (omega arith)
single_many number (row ∷ other ∷ rows) long = refl

found_long : (is_found : Bool) (found : Value) (rows : List Row) → IsFound is_found found rows → is_found ≡ true → length rows ≡ 1
found_long false found rows None is = absurd (cc)
found_long true found rows (One row) is = refl

pub too_many : (number : ℕ) (batches : List Batch) (i : ℕ) (d : Batch) (is_found : Bool) (found : Value) → i < length batches → IsFound is_found found (flat_map rows_of (take i batches)) → 0 < (get_or batches i d).rows
    → ((is_found ≡ true) ⊎ (1 < (get_or batches i d).rows)) → Err (fault_at number faults.ManyRows) ≡ single number (flat_map rows_of batches)
too_many number batches i d is_found found below so_far some many =
    let all = length-flat_map-take rows_of batches i d below in
    let long = rows_long (get_or batches i d) in
    single_many number (flat_map rows_of batches)
    (elim many [ inl is ↦ omega (arith, all, long, found_long is_found found (flat_map rows_of (take i batches)) so_far is) | inr more ↦ omega (arith, all, long) ])

-- one batch more, which has no row, or the one row
pub found_none : (batches : List Batch) (i : ℕ) (d : Batch) (is_found : Bool) (found : Value) → i < length batches → IsFound is_found found (flat_map rows_of (take i batches)) → (get_or batches i d).rows ≡ 0
    → IsFound is_found found (flat_map rows_of (take (i + 1) batches))
found_none batches i d is_found found below so_far none =
    subst (IsFound is_found found) (sym (more_rows batches i d below ∙ ap (λ rest. flat_map rows_of (take i batches) ++ rest) (no_rows (get_or batches i d) none) ∙ append-nil (flat_map rows_of (take i batches)))) so_far

pub found_one : (batches : List Batch) (i : ℕ) (d : Batch) (found new : Value) → i < length batches → IsFound false found (flat_map rows_of (take i batches)) → (get_or batches i d).rows ≡ 1
    → new ≡ value_in (get_or (rows_of (get_or batches i d)) 0 []) → IsFound true new (flat_map rows_of (take (i + 1) batches))
found_one batches i d found new below so_far one is =
    let row = get_or (rows_of (get_or batches i d)) 0 [] in
    let rows : flat_map rows_of (take (i + 1) batches) ≡ row ∷ [] =
    more_rows batches i d below ∙ ap (λ front. front ++ rows_of (get_or batches i d)) (empty found (flat_map rows_of (take i batches)) so_far) ∙ one_row (get_or batches i d) one in
    subst (λ (value : Value). IsFound true value (flat_map rows_of (take (i + 1) batches))) (sym is) (subst (IsFound true (value_in row)) (sym rows) (One row))
  where
    empty : (found : Value) (rows : List Row) → IsFound false found rows → rows ≡ []
    empty found rows None = refl
