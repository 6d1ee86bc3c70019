-- Reads of tables and of rows that are written as expressions: what passes the tests of its types fits them.
use Rattle.std.proofs.Common.{◌≡◌, ℕ, ◌≤◌, List, [], ◌∷◌, Bool, true, false, Option, Some, None, Result, Ok, Err, IfOk, IsTrue, map, length, nat_lt, refl, subst, arith}
use Rattle.std.specs.Prelude.{if◌then◌else◌}
use Rattle.std.specs.List.{AllByRecursion}
use Rattle.std.specs.Option.{option_or}
use Rattle.std.proofs.lemmas.Bool.Decides.{nat_tests}
use Rattle.sub_types.specs.declared.fault.FaultKind.{FaultKind}
use Rattle.sub_types.specs.declared.fault.FaultKind.TheVariants.{NullInRequired, TextTooLong}
use Rattle.sub_types.specs.declared.kind.Kind.{Kind}
use Rattle.sub_types.specs.declared.kind.Ty.{Ty}
use Rattle.sub_types.specs.declared.value.Value.{Value}
use Rattle.sub_types.specs.declared.value.Value.TheVariants as values
use Rattle.sub_types.specs.Stream.{Stream, rows_alone}
use Rattle.sub_types.specs.Value.{MAX_TEXT, InKind, FitsTy, Fits}
use Rattle.plan_typed.specs.declared.expr.Expr.{Expr}
use Rattle.plan_typed.specs.declared.rel.Source.{Source}
use Rattle.plan_typed.specs.declared.rel.Source.TheVariants as sources
use Rattle.plan_typed.specs.Types.{ty_of}
use Rattle.well_typed.specs.Columns.{columns_at}
use Rattle.well_typed.specs.ExprTyped.{IsTypedOver}
use Rattle.well_typed.specs.WellTyped.{AreBelow, IsRowOf, IsSourceOf}
use Rattle.plan_denote.specs.Rows.{Row, Formula, ◌>>=◌, values_at, is_true, only_if}
use Rattle.plan_denote.specs.Eval.{eval}
use Rattle.plan_denote.specs.Project as project
use Rattle.plan_denote.specs.Read.{null_fault, length_fault, value_fault, row_fault, fault_or, read_row, read_rows, virtual_rows}
use Rattle.plan_denote.specs.Denote.{Tables, source_rows}
use Rattle.denote_typed.specs.Kinded.{AreInKinds, IsWellKinded, IsKindedSource}
use Rattle.denote_typed.proofs.FitLaws.{at_places, values_fit}
use Rattle.denote_typed.proofs.RowsLaws.{Rows, only_if_all, any_result, stepped, each_row_all}

-- the first of two faults, where there is none
none_first : {A : Type 0} (a b : Option A) → option_or a b ≡ None → a ≡ None
none_first None b is = refl
none_first (Some x) b is = is

none_second : {A : Type 0} (a b : Option A) → option_or a b ≡ None → b ≡ None
none_second None b is = is
none_second (Some x) b is = absurd (cc)

-- a value without a fault fits
null_tested : (nullable : Bool) → (if nullable then None else Some NullInRequired) ≡ None → IsTrue nullable
null_tested true is = refl
null_tested false is = absurd (cc)

length_tested : (size : ℕ) → (if nat_lt MAX_TEXT size then Some TextTooLong else None) ≡ None → size ≤ MAX_TEXT
length_tested size is = by_test (nat_lt MAX_TEXT size) refl is
  where
    by_test : (test : Bool) → nat_lt MAX_TEXT size ≡ test → (if test then Some TextTooLong else None) ≡ None → size ≤ MAX_TEXT
    by_test true found none = absurd (cc)
    by_test false found none = grind (arith, nat_tests)

value_tested : (ty : Ty) (value : Value) → InKind ty.kind value → value_fault ty value ≡ None → FitsTy ty value
value_tested ty values.Null kind is = record { in_kind = kind; short = tt; allowed = λ _. null_tested ty.nullable (none_first (null_fault ty values.Null) (length_fault values.Null) is) }
value_tested ty (values.Bool test) kind is = record { in_kind = kind; short = tt; allowed = λ e. cc }
value_tested ty (values.Int n) kind is = record { in_kind = kind; short = tt; allowed = λ e. cc }
value_tested ty (values.Dec n) kind is = record { in_kind = kind; short = tt; allowed = λ e. cc }
value_tested ty (values.Bytes bytes) kind is = record { in_kind = kind; short = length_tested (length bytes) is; allowed = λ e. cc }

row_tested : (types : List Ty) (row : List Value) → AreInKinds types row → row_fault types row ≡ None → Fits types row
row_tested [] [] kinds is = tt
row_tested [] (value ∷ row) kinds is = absurd kinds
row_tested (ty ∷ types) [] kinds is = absurd kinds
row_tested (ty ∷ types) (value ∷ row) kinds is =
    (value_tested ty value kinds.0 (none_first (value_fault ty value) (row_fault types row) is), row_tested types row kinds.1 (none_second (value_fault ty value) (row_fault types row) is))

unless_given : {A : Type 0} (Q : A → Type 0) (fault : Option FaultKind) (given : Result A FaultKind) → (fault ≡ None → IfOk given Q) → IfOk (fault_or fault given) Q
unless_given Q None given k = k refl
unless_given Q (Some kind) given k = tt

-- the rows that are read
pub read_fits : (types : List Ty) (filter : Formula) (mask : List ℕ) (number : ℕ) (s : Stream Row) → AreBelow (length types) mask → IsWellKinded types s → Rows (Fits (columns_at types mask)) (read_rows number types filter mask s)
unfolding read_rows
read_fits types filter mask number s below all =
    let Q = AllByRecursion (Fits (columns_at types mask)) in
    each_row_all (AreInKinds types) (Fits (columns_at types mask)) number (read_row types filter mask) s all (λ row kinds.
    unless_given Q (row_fault types row) (filter row >>= (λ test. Ok (only_if (is_true test) (project.columns_at mask row)))) (λ is.
    stepped (λ _. Unit {0}) Q (filter row) (λ test. Ok (only_if (is_true test) (project.columns_at mask row))) (any_result (filter row)) (λ test _.
    only_if_all (Fits (columns_at types mask)) (is_true test) (project.columns_at mask row) (at_places types row mask below (row_tested types row kinds is)))))

-- rows of expressions
row_typed : (types : List Ty) (exprs : List Expr) → IsRowOf types exprs → AllByRecursion (IsTypedOver []) exprs
row_typed [] [] is = tt
row_typed [] (expr ∷ exprs) is = absurd is
row_typed (ty ∷ types) [] is = absurd is
row_typed (ty ∷ types) (expr ∷ exprs) is = (is.0, row_typed types exprs is.2)

row_kinds : (types : List Ty) (exprs : List Expr) (row : List Value) → IsRowOf types exprs → Fits (map ty_of exprs) row → AreInKinds types row
row_kinds [] [] row is fits = given row fits
  where
    given : (row : List Value) → Fits [] row → AreInKinds [] row
    given [] fits = tt
    given (value ∷ row) fits = absurd fits
row_kinds [] (expr ∷ exprs) row is fits = absurd is
row_kinds (ty ∷ types) [] row is fits = absurd is
row_kinds (ty ∷ types) (expr ∷ exprs) [] is fits = absurd fits
row_kinds (ty ∷ types) (expr ∷ exprs) (value ∷ row) is fits = (subst (λ (kind : Kind). InKind kind value) is.1 fits.0.in_kind, row_kinds types exprs row is.2 fits.1)

formulas_of : List Expr → List Formula
formulas_of exprs = map eval exprs

abbrev IsWritten : List Ty → List Formula → Type 0
IsWritten types formulas = IfOk (values_at formulas []) (AreInKinds types)

all_written : (types : List Ty) (rows : List (List Expr)) → AllByRecursion (IsRowOf types) rows → AllByRecursion (IsWritten types) (map (map eval) rows)
all_written types [] all = tt
all_written types (exprs ∷ rows) all = (is_written, all_written types rows all.1)
  where
    as_kinds : (given : Result Row FaultKind) → IfOk given (λ values. Fits (map ty_of exprs) values) → IfOk given (AreInKinds types)
    as_kinds (Ok row) fits = row_kinds types exprs row all.0 fits
    as_kinds (Err kind) fits = tt

    is_written : IsWritten types (map eval exprs)
    is_written = as_kinds (values_at (map eval exprs) []) (values_fit [] exprs [] (row_typed types exprs all.0) tt)

virtual_kinds : (types : List Ty) (rows : List (List Expr)) (number : ℕ) → AllByRecursion (IsRowOf types) rows → IsWellKinded types (virtual_rows number (map (map eval) rows))
unfolding virtual_rows
virtual_kinds types rows number all =
    each_row_all (IsWritten types) (AreInKinds types) number (λ exprs. values_at exprs [] >>= (λ row. Ok (row ∷ []))) (rows_alone (map (map eval) rows)) (all_written types rows all) (λ exprs written.
    stepped (AreInKinds types) (AllByRecursion (AreInKinds types)) (values_at exprs []) (λ row. Ok (row ∷ [])) written (λ row kinds. (kinds, tt)))

-- a source
pub source_kinds : (tables : Tables) (number : ℕ) (types : List Ty) (source : Source) → IsSourceOf types source → IsKindedSource types source (tables number) → IsWellKinded types (source_rows tables number source)
source_kinds tables number types (sources.Named names) is kinded = kinded
source_kinds tables number types (sources.Rows rows) is kinded = virtual_kinds types rows number is
