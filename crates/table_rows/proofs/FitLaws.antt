-- Rows without a fault fit.
use Rattle.std.proofs.Common.{rules, ◌≡◌, ◌∙◌, ℕ, ◌<◌, List, [], ◌∷◌, length, map, get_or, take, Bool, true, false, IsTrue, cond, Option, Some, None, refl, sym, ap, subst, arith}
use Rattle.std.specs.List.{All}
use Rattle.std.specs.Option.{option_or}
use Rattle.std.proofs.lemmas.Bool.{ltb-false}
use Rattle.std.proofs.lemmas.List.Elements.{All-head, All-tail}
use Rattle.std.proofs.lemmas.List.FromFn.{length-map-range_with_len, get_or-map-range_with_len}
use Rattle.std.proofs.lemmas.List.{length-take, get_or-take}
use Rattle.sub_types.specs.Rows.{across, transpose}
use Rattle.sub_types.specs.Value.{InKind, FitsTy, Fits, MAX_TEXT}
use Rattle.sub_types.specs.declared.fault.FaultKind.TheVariants.{NullInRequired, TextTooLong}
use Rattle.sub_types.specs.declared.kind.Ty.{Ty}
use Rattle.sub_types.specs.declared.value.Value.{Value}
use Rattle.sub_types.specs.declared.value.Value.TheVariants as values
use Rattle.batch.specs.declared.batch.Batch.{Batch}
use Rattle.batch.specs.declared.column.Column.{Column}
use Rattle.batch.specs.Column.{column_values, column_type}
use Rattle.batch.specs.ColumnValues.{values_of}
use Rattle.batch.specs.BatchRows.{columns_of, types_of, rows_of}
use Rattle.table_rows.specs.Read.{value_fault, row_fault}

or_parts : {A : Type 0} (a b : Option A) → option_or a b ≡ None → (a ≡ None) × (b ≡ None)
or_parts None b h = (refl, h)
or_parts (Some x) b h = absurd (cc)

null_allowed : (nullable : Bool) → option_or (cond nullable None (Some NullInRequired)) None ≡ None → IsTrue nullable
null_allowed true h = search rules
null_allowed false h = absurd (cc)

not_long : (long : Bool) → cond long (Some TextTooLong) None ≡ None → long ≡ false
not_long true h = absurd (cc)
not_long false h = refl

value_fits : (ty : Ty) (value : Value) → InKind ty.kind value → value_fault ty value ≡ None → FitsTy ty value
value_fits ty values.Null in_kind h = record { in_kind = in_kind; short = tt; allowed = λ _. null_allowed ty.nullable h }
value_fits ty (values.Bool b) in_kind h = record { in_kind = in_kind; short = tt; allowed = λ e. absurd (cc) }
value_fits ty (values.Int n) in_kind h = record { in_kind = in_kind; short = tt; allowed = λ e. absurd (cc) }
value_fits ty (values.Dec n) in_kind h = record { in_kind = in_kind; short = tt; allowed = λ e. absurd (cc) }
value_fits ty (values.Bytes bytes) in_kind h = record { in_kind = in_kind; short = ltb-false MAX_TEXT (length bytes) (not_long _ h); allowed = λ e. absurd (cc) }

row_fits : (columns : List Column) (rows k : ℕ) → All (λ column. length (values_of column.values) ≡ rows) columns → k < rows
    → row_fault (map column_type columns) (across values.Null (map column_values columns) k) ≡ None → Fits (map column_type columns) (across values.Null (map column_values columns) k)
row_fits [] rows k sized below clean = tt
row_fits (column ∷ columns) rows k sized below clean =
    let value = get_or (values_of column.values) k values.Null in
    let parts = or_parts (value_fault column.ty value) (row_fault (map column_type columns) (across values.Null (map column_values columns) k)) clean in
    let long = All-head (λ (one : Column). length (values_of one.values) ≡ rows) column columns sized in (
      value_fits column.ty value (column.in_kind k values.Null (omega (arith, long))) parts.0,
      row_fits columns rows k (All-tail (λ (one : Column). length (values_of one.values) ≡ rows) column columns sized) below parts.1,
    )

-- the row at a place
pub row_at : (batch : Batch) (k : ℕ) (d : List Value) → k < batch.rows → get_or (rows_of batch) k d ≡ across values.Null (columns_of batch) k
row_at batch k d below = get_or-map-range_with_len (across values.Null (columns_of batch)) 0 batch.rows k k d below (omega arith)

pub length-rows : (batch : Batch) → length (rows_of batch) ≡ batch.rows
length-rows batch = length-map-range_with_len (across values.Null (columns_of batch)) 0 batch.rows

-- as many rows, over the same columns
pub rows_same : (a b : Batch) → columns_of a ≡ columns_of b → a.rows ≡ b.rows → rows_of a ≡ rows_of b
rows_same a b columns rows = ap (λ n. transpose values.Null n (columns_of a)) rows ∙ ap (transpose values.Null b.rows) columns

-- no row of a list has a fault
abbrev pub AreClean : List Ty → List (List Value) → Type 0
AreClean types rows = (k : ℕ) → k < length rows → row_fault types (get_or rows k []) ≡ None

-- rows without a fault fit
pub all_fit : (types : List Ty) (batch : Batch) (rows : List (List Value)) → types_of batch ≡ types → rows_of batch ≡ rows → AreClean types rows → All (Fits types) (rows_of batch)
all_fit types batch rows typed same clean = λ k d below.
    let inside : k < batch.rows = omega (arith, length-rows batch) in
    let listed : k < length rows = omega (arith, ap length same) in
    let row = across values.Null (columns_of batch) k in
    let none : row_fault (types_of batch) row ≡ None =
    ap (λ ts. row_fault ts row) typed ∙ ap (row_fault types) (sym (row_at batch k [] inside) ∙ ap (λ (all : List (List Value)). get_or all k []) same) ∙ clean k listed in
    let P : List Ty → Type 0 = λ ts. Fits ts row in
    let Q : List Value → Type 0 = λ one. Fits types one in
    subst Q (sym (row_at batch k d inside)) (subst P typed (row_fits batch.columns.items batch.rows k batch.sized inside none))

-- the rows of a batch have no fault
pub clean_rows : (types : List Ty) (batch : Batch) → ((k : ℕ) → k < batch.rows → row_fault types (across values.Null (columns_of batch) k) ≡ None) → AreClean types (rows_of batch)
clean_rows types batch none = λ k below.
    let inside : k < batch.rows = omega (arith, length-rows batch) in
    ap (row_fault types) (row_at batch k [] inside) ∙ none k inside

-- nor do those before the first that has one
pub clean_before : (types : List Ty) (batch : Batch) (i : ℕ) → i < batch.rows → ((k : ℕ) → k < i → row_fault types (across values.Null (columns_of batch) k) ≡ None)
    → (k : ℕ) → k < i → row_fault types (get_or (rows_of batch) k []) ≡ None
clean_before types batch i within none = λ k below.
    let inside : k < batch.rows = omega arith in
    ap (row_fault types) (row_at batch k [] inside) ∙ none k below

pub clean_taken : (types : List Ty) (rows : List (List Value)) (i : ℕ) → i < length rows → ((k : ℕ) → k < i → row_fault types (get_or rows k []) ≡ None) → AreClean types (take i rows)
clean_taken types rows i within none = λ k below.
    let early : k < i = omega (arith, length-take i rows) in
    ap (row_fault types) (get_or-take i rows k [] early) ∙ none k early
