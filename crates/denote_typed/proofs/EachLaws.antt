-- Filters, projections, emitted columns, fetches and sorts.
use Rattle.std.proofs.Common.{ℕ, List, [], ◌∷◌, ◌++◌, Bool, true, false, cond, Option, Some, None, Ok, map, length}
use Rattle.std.specs.Prelude.{drop}
use Rattle.std.specs.List.{AllByRecursion}
use Rattle.std.specs.declared.cmp.Ordering.{Ordering}
use Rattle.std.specs.Ordering.{on, is_gt}
use Rattle.sub_types.specs.Stream.{Stream}
use Rattle.sub_types.specs.Value.{Fits}
use Rattle.sub_types.specs.declared.kind.Ty.{Ty}
use Rattle.plan_typed.specs.declared.expr.Expr.{Expr}
use Rattle.plan_typed.specs.Types.{ty_of}
use Rattle.well_typed.specs.Columns.{columns_at}
use Rattle.well_typed.specs.ExprTyped.{IsTypedOver}
use Rattle.well_typed.specs.WellTyped.{AreBelow}
use Rattle.plan_denote.specs.Rows.{Row, Formula, is_true, only_if, values_at, each_row}
use Rattle.plan_denote.specs.Eval.{eval}
use Rattle.plan_denote.specs.Filter.{filtered, filter_row}
use Rattle.plan_denote.specs.Project.{projected, project_row, emitted}
use Rattle.plan_denote.specs.Project as project
use Rattle.plan_denote.specs.Fetch.{fetched, window}
use Rattle.plan_denote.specs.Sort.{Direction, Keyed, keyed, key_cmp, placed, arranged, sorted_rows, sorted}
use Rattle.denote_typed.proofs.FitLaws.{beside, at_places, values_fit}
use Rattle.denote_typed.proofs.RowsLaws.{Rows, mapped, taken, dropped, only_if_all, any_result, stepped, each_row_all, from_all_rows}

-- a filter keeps rows
pub filtered_all : (P : Row → Type 0) (number : ℕ) (condition : Formula) (s : Stream Row) → Rows P s → Rows P (filtered number condition s)
unfolding filtered
filtered_all P number condition s all =
    each_row_all P P number (filter_row condition) s all (λ row holds.
    stepped (λ _. Unit {0}) (AllByRecursion P) (condition row) (λ test. Ok (only_if (is_true test) row)) (any_result (condition row)) (λ test _. only_if_all P (is_true test) row holds))

-- a projection
pub projected_fits : (types : List Ty) (exprs : List Expr) (number : ℕ) (s : Stream Row) → AllByRecursion (IsTypedOver types) exprs → Rows (Fits types) s → Rows (Fits (types ++ map ty_of exprs)) (projected number (map eval exprs) s)
unfolding projected
projected_fits types exprs number s typed all =
    each_row_all (Fits types) (Fits (types ++ map ty_of exprs)) number (project_row (map eval exprs)) s all (λ row fits.
    stepped (Fits (map ty_of exprs)) (AllByRecursion (Fits (types ++ map ty_of exprs))) (values_at (map eval exprs) row) (λ found. Ok ((row ++ found) ∷ [])) (values_fit types exprs row typed fits)
    (λ found fit. (beside types (map ty_of exprs) row found fits fit, tt)))

-- the emitted columns
pub emitted_fits : (types : List Ty) (places : List ℕ) (s : Stream Row) → AreBelow (length types) places → Rows (Fits types) s → Rows (Fits (columns_at types places)) (emitted places s)
unfolding emitted
emitted_fits types places s below all = mapped (Fits types) (Fits (columns_at types places)) (project.columns_at places) s.rows all (λ row fits. at_places types row places below fits)

-- some of the rows
window_all : (P : Row → Type 0) (offset : ℕ) (count : Option ℕ) (rows : List Row) → AllByRecursion P rows → AllByRecursion P (window offset count rows)
window_all P offset None rows all = dropped P offset rows all
window_all P offset (Some count) rows all = taken P count (drop offset rows) (dropped P offset rows all)

pub fetched_all : (P : Row → Type 0) (offset : ℕ) (count : Option ℕ) (s : Stream Row) → Rows P s → Rows P (fetched offset count s)
unfolding fetched
fetched_all P offset count s all = window_all P offset count s.rows all

-- the rows in another order
module _ {A : Type 0} (P : A → Type 0) (cmp : A → A → Ordering) where
  placed_by : (x y : A) (ys : List A) (test : Bool) → P x → AllByRecursion P (y ∷ ys) → AllByRecursion P (placed cmp x ys) → AllByRecursion P (cond test (y ∷ placed cmp x ys) (x ∷ y ∷ ys))
  placed_by x y ys true holds all ih = (all.0, ih)
  placed_by x y ys false holds all ih = (holds, all)

  placed_all : (x : A) (ys : List A) → P x → AllByRecursion P ys → AllByRecursion P (placed cmp x ys)
  placed_all x [] holds all = (holds, tt)
  placed_all x (y ∷ ys) holds all = placed_by x y ys (is_gt (cmp x y)) holds all (placed_all x ys holds all.1)

  arranged_all : (xs : List A) → AllByRecursion P xs → AllByRecursion P (arranged cmp xs)
  arranged_all [] all = tt
  arranged_all (x ∷ xs) all = placed_all x (arranged cmp xs) all.0 (arranged_all xs all.1)

abbrev RowOf : (Row → Type 0) → Keyed → Type 0
RowOf P one = P one.1

sorted_rows_all : (P : Row → Type 0) (directions : List Direction) (rows : List Keyed) → AllByRecursion (RowOf P) rows → AllByRecursion P (sorted_rows directions rows)
unfolding sorted_rows
sorted_rows_all P directions rows all =
    mapped (RowOf P) P (λ (one : Keyed). one.1) (arranged (on (λ (one : Keyed). one.0) (key_cmp directions)) rows)
    (arranged_all (RowOf P) (on (λ (one : Keyed). one.0) (key_cmp directions)) rows all) (λ one holds. holds)

pub sorted_all : (P : Row → Type 0) (number : ℕ) (keys : List Formula) (directions : List Direction) (s : Stream Row) → Rows P s → Rows P (sorted number keys directions s)
unfolding sorted
sorted_all P number keys directions s all =
    from_all_rows P (λ rows. record { rows = sorted_rows directions rows; end = None }) (each_row number (keyed keys) s)
    (sorted_rows_all P directions (each_row number (keyed keys) s).rows
    (each_row_all P (RowOf P) number (keyed keys) s all (λ row holds.
    stepped (λ _. Unit {0}) (AllByRecursion (RowOf P)) (values_at keys row) (λ key. Ok ((key, row) ∷ [])) (any_result (values_at keys row)) (λ key _. (holds, tt)))))
