-- Rows of columns of nullable numbers fit their types.
use Rattle.std.proofs.Common.{inl, inr, ◌≡◌, ℕ, ◌<◌, List, [], ◌∷◌, All, length, map, get_or, refl, sym, subst, arith}
use Rattle.std.specs.List.{AllByRecursion}
use Rattle.std.proofs.lemmas.Bool.{cases_lt}
use Rattle.std.proofs.lemmas.List.{get_or_past}
use Rattle.std.proofs.lemmas.List.Elements.{All-get_or}
use Rattle.std.proofs.lemmas.List.FromFn.{length-map-range_with_len, get_or-map-range_with_len}
use Rattle.sub_types.specs.Rows.{across}
use Rattle.sub_types.specs.Value.{InKind, IsShort, Fits, FitsTy}
use Rattle.sub_types.specs.declared.kind.Kind.{Kind}
use Rattle.sub_types.specs.declared.kind.Kind.TheVariants as kinds
use Rattle.sub_types.specs.declared.kind.Ty.{Ty}
use Rattle.sub_types.specs.declared.value.Value.{Value}
use Rattle.sub_types.specs.declared.value.Value.TheVariants as values
use Rattle.batch.specs.BatchRows.{rows_of, types_of}
use Rattle.batch.specs.Column.{column_values, column_type}
use Rattle.batch.specs.declared.batch.Batch.{Batch}
use Rattle.batch.specs.declared.column.Column.{Column}
use Rattle.steps_tests.specs.Typed.{number, numbers}

short_number : (value : Value) → InKind kinds.I64 value → IsShort value
short_number values.Null in_kind = tt
short_number (values.Bool b) in_kind = tt
short_number (values.Int n) in_kind = tt
short_number (values.Dec n) in_kind = tt
short_number (values.Bytes bytes) in_kind = absurd in_kind

number_fits : (value : Value) → InKind kinds.I64 value → FitsTy number value
number_fits value in_kind = record { in_kind = in_kind; short = short_number value in_kind; allowed = λ is. refl }

null_or_in_kind : (kind : Kind) (xs : List Value) (i : ℕ) → All (InKind kind) xs → InKind kind (get_or xs i values.Null)
null_or_in_kind kind xs i all = elim (cases_lt i (length xs)) [
  | inl there ↦ All-get_or (InKind kind) xs i values.Null there all
  | inr past ↦ subst (InKind kind) (sym (get_or_past xs i values.Null past)) tt
]

column_fits : (column : Column) (i : ℕ) → column.ty ≡ number → FitsTy (column_type column) (get_or (column_values column) i values.Null)
column_fits column i is =
    let value = get_or (column_values column) i values.Null in
    let in_kind : InKind kinds.I64 value = subst (λ (one : Ty). InKind one.kind value) is (null_or_in_kind column.ty.kind (column_values column) i column.in_kind) in
    subst (λ (one : Ty). FitsTy one value) (sym is) (number_fits value in_kind)

row_fits : (columns : List Column) (i : ℕ) → AllByRecursion (λ (ty : Ty). ty ≡ number) (map column_type columns) → Fits (map column_type columns) (across values.Null (map column_values columns) i)
row_fits [] i all = tt
row_fits (column ∷ columns) i all = (column_fits column i all.0, row_fits columns i all.1)

pub batch_fits : (batch : Batch) → types_of batch ≡ numbers → All (Fits (types_of batch)) (rows_of batch)
batch_fits batch is = λ i d below.
    let columns = batch.columns.items in
    let at_row = across values.Null (map column_values columns) in
    let there : i < batch.rows = omega (arith, below, length-map-range_with_len at_row 0 batch.rows) in
    let all = subst (AllByRecursion (λ (ty : Ty). ty ≡ number)) (sym is) (refl, (refl, tt)) in
    subst (Fits (types_of batch)) (sym (get_or-map-range_with_len at_row 0 batch.rows i i d there (omega arith))) (row_fits columns i all)
