-- The first fault of a row, column by column.
use Rattle.std.proofs.Common.{◌≡◌, ◌∙◌, ℕ, zero, suc, ◌+◌, ◌<◌, List, [], ◌∷◌, length, map, get_or, take, Option, Some, None, refl, sym, ap, add-one, arith}
use Rattle.std.specs.Option.{option_or}
use Rattle.sub_types.specs.Rows.{across}
use Rattle.sub_types.specs.declared.fault.FaultKind.{FaultKind}
use Rattle.sub_types.specs.declared.kind.Ty.{Ty}
use Rattle.sub_types.specs.declared.value.Value.{Value}
use Rattle.sub_types.specs.declared.value.Value.TheVariants.{Null}
use Rattle.batch.specs.declared.column.Column.{Column}
use Rattle.batch.specs.Column.{column_values}
use Rattle.table_rows.specs.declared.first.RowFault.{RowFault}
use Rattle.table_rows.specs.First.{IsFirst}
use Rattle.table_rows.specs.Read.{value_fault, row_fault}

or_none : {A : Type 0} (a : Option A) → option_or a None ≡ a
or_none None = refl
or_none (Some x) = refl

or_assoc : {A : Type 0} (a b c : Option A) → option_or (option_or a b) c ≡ option_or a (option_or b c)
or_assoc None b c = refl
or_assoc (Some x) b c = refl

-- one column more
pub row_fault-more : (types : List Ty) (row : List Value) (i : ℕ) (ty : Ty) (value : Value) → i < length types → i < length row → ty ≡ get_or types i ty → value ≡ get_or row i value
    → row_fault (take (suc i) types) row ≡ option_or (row_fault (take i types) row) (value_fault ty value)
row_fault-more [] row i ty value typed valued is_ty is_value = absurd (omega arith)
row_fault-more (t ∷ types) [] i ty value typed valued is_ty is_value = absurd (omega arith)
row_fault-more (t ∷ types) (v ∷ row) zero ty value typed valued is_ty is_value =
    or_none (value_fault t v) ∙ ap (λ x. value_fault x v) (sym is_ty) ∙ ap (value_fault ty) (sym is_value)
row_fault-more (t ∷ types) (v ∷ row) (suc i) ty value typed valued is_ty is_value =
    ap (option_or (value_fault t v)) (row_fault-more types row i ty value (omega arith) (omega arith) is_ty is_value)
    ∙ sym (or_assoc (value_fault t v) (row_fault (take i types) row) (value_fault ty value))

-- the value of a row in a column
pub value_in_row : (columns : List Column) (i k : ℕ) (column : Column) (d : Value) → i < length columns → column ≡ get_or columns i column
    → get_or (column_values column) k Null ≡ get_or (across Null (map column_values columns) k) i d
value_in_row [] i k column d below is = absurd (omega arith)
value_in_row (one ∷ columns) zero k column d below is = ap (λ (c : Column). get_or (column_values c) k Null) is
value_in_row (one ∷ columns) (suc i) k column d below is = value_in_row columns i k column d (omega arith) is

length-across : (columns : List Column) (k : ℕ) → length (across Null (map column_values columns) k) ≡ length columns
length-across [] k = refl
length-across (column ∷ columns) k = ap suc (length-across columns k)

-- the rows' faults over one column more
pub rows-more : (types : List Ty) (columns : List Column) (i k : ℕ) (ty : Ty) (column : Column) → i < length types → i < length columns → ty ≡ get_or types i ty → column ≡ get_or columns i column
    → option_or (row_fault (take i types) (across Null (map column_values columns) k)) (value_fault ty (get_or (column_values column) k Null))
    ≡ row_fault (take (i + 1) types) (across Null (map column_values columns) k)
rows-more types columns i k ty column typed valued is_ty is_column =
    let row = across Null (map column_values columns) k in
    let value = get_or (column_values column) k Null in
    let inside : i < length row = omega (arith, length-across columns k) in
    sym (ap (λ n. row_fault (take n types) row) (add-one i)
    ∙ row_fault-more types row i ty value typed inside is_ty (value_in_row columns i k column value valued is_column))

-- the first fault doesn't change where the rows' faults don't
pub IsFirst-same : (f g : ℕ → Option FaultKind) (rows : ℕ) (found : Option RowFault) → ((k : ℕ) → k < rows → f k ≡ g k) → IsFirst f rows found → IsFirst g rows found
IsFirst-same f g rows None same first = λ k below. sym (same k below) ∙ first k below
IsFirst-same f g rows (Some found) same first = record {
  within = first.within;
  here = sym (same found.row first.within) ∙ first.here;
  none_before = λ k below. let within = first.within in sym (same k (omega arith)) ∙ first.none_before k below;
}
