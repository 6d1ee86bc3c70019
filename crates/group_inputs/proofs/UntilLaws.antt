-- An expression at rows of a batch, by their places and row by row.
use Rattle.std.proofs.Common.{◌≡◌, ◌∙◌, ℕ, suc, ◌<◌, ◌≤◌, List, [], ◌∷◌, true, Option, Some, None, Result, Ok, Err, length, map, take, replicate, refl, sym, ap, arith}
use Rattle.std.specs.List.{All, range_with_len}
use Rattle.std.proofs.lemmas.List.{length-map}
use Rattle.std.proofs.lemmas.List.FromFn.{length-range_with_len, get_or-range_with_len, take-map-range_with_len, fill_by_all}
use Rattle.sub_types.specs.declared.fault.FaultKind.{FaultKind}
use Rattle.sub_types.specs.declared.kind.Kind.{Kind}
use Rattle.sub_types.specs.declared.value.Value.{Value}
use Rattle.sub_types.specs.declared.value.Value.TheVariants as values
use Rattle.plan_typed.specs.declared.expr.Expr.{Expr}
use Rattle.plan_denote.specs.Computed.{Row, truth}
use Rattle.plan_denote.specs.Eval.{eval}
use Rattle.batch.specs.declared.batch.Batch.{Batch}
use Rattle.batch.specs.declared.column.Column as stored
use Rattle.batch.specs.BatchRows.{rows_of, columns_of}
use Rattle.batch.specs.Column.{column_values}
use Rattle.batch.proofs.RowLaws.{length-transpose}
use Rattle.kernels.specs.declared.selection.Stop.{Stop}
use Rattle.kernels.specs.Until.{Until, step, until}
use Rattle.batch_nodes.specs.Evaluated.{eval_at, row_at}
use Rattle.batch_nodes.specs.Found.{IsUntil, found_values}
use Rattle.batch_nodes.specs.declared.found.Found.{Found}
use Rattle.group_laws.specs.Columns.{Column, at_row, column, first_stop}
use Rattle.group_inputs.specs.declared.before.Before.{Before}
use Rattle.group_inputs.specs.Before.{first_rows, kind_in, IsColumn}

-- ---- faults

pub first_of_three : (a b c : Option FaultKind) → first_stop a (first_stop b c) ≡ first_stop (first_stop a b) c
first_of_three (Some kind) b c = refl
first_of_three None b c = refl

pub or_none : (a : Option FaultKind) → first_stop a None ≡ a
or_none (Some kind) = refl
or_none None = refl

pub none_first : (a b : Option FaultKind) → first_stop a b ≡ None → a ≡ None
none_first (Some kind) b e = e
none_first None b e = refl

pub none_second : (a b : Option FaultKind) → first_stop a b ≡ None → b ≡ None
none_second (Some kind) b e = absurd (cc)
none_second None b e = e

-- ---- the first rows

pub many_first : (n : ℕ) (batch : Batch) → length (first_rows n batch) ≡ n
many_first n batch = length-map (range_with_len 0 n) (row_at batch) ∙ length-range_with_len 0 n

pub first_of_first : (k n : ℕ) (batch : Batch) → k ≤ n → take k (first_rows n batch) ≡ first_rows k batch
first_of_first k n batch few = take-map-range_with_len (row_at batch) 0 n k few

pub all_rows : (batch : Batch) → rows_of batch ≡ first_rows batch.rows batch
all_rows batch = fill_by_all (row_at batch) (rows_of batch) batch.rows [] (length-transpose values.Null batch.rows (columns_of batch)) (λ i below. refl)

pub all_below : (n m : ℕ) → n ≤ m → All (λ row. row < m) (range_with_len 0 n)
all_below n m few k d below =
    let there : k < n = omega (arith, below, length-range_with_len 0 n) in
    omega (arith, few, there, get_or-range_with_len 0 n k d there)

-- ---- columns

values_short : {R A : Type 0} (r : Result A FaultKind) (one : Column A) (rows : List R) → length one.values ≤ length rows → length (at_row r one).values ≤ suc (length rows)
values_short (Ok x) one rows few = omega (arith, few)
values_short (Err kind) one rows few = omega arith

pub column_short : {R A : Type 0} (f : R → Result A FaultKind) (rows : List R) → length (column f rows).values ≤ length rows
column_short f [] = omega arith
column_short f (row ∷ rows) = values_short (f row) (column f rows) rows (column_short f rows)

values_full : {R A : Type 0} (r : Result A FaultKind) (one : Column A) (rows : List R) → (one.stop ≡ None → length one.values ≡ length rows) → (at_row r one).stop ≡ None → length (at_row r one).values ≡ suc (length rows)
values_full (Ok x) one rows full e = ap suc (full e)
values_full (Err kind) one rows full e = absurd (cc)

pub column_full : {R A : Type 0} (f : R → Result A FaultKind) (rows : List R) → (column f rows).stop ≡ None → length (column f rows).values ≡ length rows
column_full f [] e = refl
column_full f (row ∷ rows) e = values_full (f row) (column f rows) rows (column_full f rows) e

pub column_true : {R : Type 0} (rows : List R) → column (λ (row : R). truth true) rows ≡ record { values = replicate (length rows) (values.Bool true); stop = None }
column_true [] = refl
column_true (row ∷ rows) = ap (at_row (truth true)) (column_true rows)

abbrev as_column : {A : Type 0} → Until A → Column A
as_column one = record { values = one.values; stop = kind_in one.stop }

until_row : {A : Type 0} (row : ℕ) (r : Result A FaultKind) (one : Column A) (rest : Until A) → one ≡ as_column rest → at_row r one ≡ as_column (step row r rest)
until_row row (Ok x) one rest e = ap (at_row (Ok x)) e
until_row row (Err kind) one rest e = refl

pub column_until : {A : Type 0} (f : Row → Result A FaultKind) (g : ℕ → Row) (rows : List ℕ) → column f (map g rows) ≡ as_column (until (λ i. f (g i)) rows)
column_until f g [] = refl
column_until f g (row ∷ rows) = until_row row (f (g row)) (column f (map g rows)) (until (λ i. f (g i)) rows) (column_until f g rows)

-- an expression at the first rows
pub column_found : (expr : Expr) (batch : Batch) (start after : Before) (rows : List ℕ) (kind : Kind) (found : Found) (stop : Stop) (given : stored.Column)
    → rows ≡ range_with_len 0 start.rows → IsUntil (eval_at expr batch) rows kind found stop → column_values given ≡ found_values found → after.rows ≡ length (found_values found) → after.stop ≡ first_stop (kind_in stop) start.stop → IsColumn expr batch start given after
column_found expr batch start after rows kind found stop given at is values many ended =
    let one = column (eval expr) (first_rows start.rows batch) in
    let whole : one ≡ as_column (until (eval_at expr batch) rows) = column_until (eval expr) (row_at batch) (range_with_len 0 start.rows) ∙ sym (ap (λ l. as_column (until (eval_at expr batch) l)) at) in
    let own : found_values found ≡ one.values = is.values ∙ sym (ap (λ (c : Column Value). c.values) whole) in
    let stops : kind_in stop ≡ one.stop = ap kind_in is.stop ∙ sym (ap (λ (c : Column Value). c.stop) whole) in
    record {
      values = values ∙ own;
      after = record { rows = many ∙ ap length own; stop = ended ∙ ap (λ s. first_stop s start.stop) stops };
    }
