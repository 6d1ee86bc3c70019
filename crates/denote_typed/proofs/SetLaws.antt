-- Set operations: a column may be null where a row of the result may have a null there.
use Rattle.std.proofs.Common.{◌≡◌, ℕ, zero, suc, ◌+◌, ◌-◌, ◌<◌, List, [], ◌∷◌, Bool, true, false, cond, not, ◌||◌, Option, Some, IsTrue, map, length, nat_lt, inl, inr, refl, sym, ap, subst, arith}
use Rattle.std.specs.Prelude.{slice_get, take}
use Rattle.std.specs.List.{AllByRecursion, filter, list_any, list_all, flat_map, range_with_len, enumerate_from}
use Rattle.std.specs.Option.{option_map_or}
use Rattle.std.proofs.lemmas.Bool.{and_parts, and_from, or_cases, or_left, or_right}
use Rattle.std.proofs.lemmas.Bool.Decides.{nat_tests}
use Rattle.sub_types.specs.declared.kind.Kind.{Kind}
use Rattle.sub_types.specs.declared.kind.Ty.{Ty}
use Rattle.sub_types.specs.declared.value.Value.{Value}
use Rattle.sub_types.specs.declared.value.Value.TheVariants as values
use Rattle.sub_types.specs.Stream.{Stream, rows_alone}
use Rattle.sub_types.specs.Value.{InKind, FitsTy, Fits}
use Rattle.plan_typed.specs.declared.rel.SetOp.{SetOp}
use Rattle.plan_typed.specs.declared.rel.SetOp.TheVariants as ops
use Rattle.func_table.proofs.KindLaws.{equal_kinds}
use Rattle.func_table.proofs.ListLaws.{count_by-cons}
use Rattle.func_table.specs.Kinds.{is_equal}
use Rattle.well_typed.proofs.MadeRel.{all_places}
use Rattle.well_typed.specs.Columns.{is_nullable_in, is_nullable_at, are_of_kinds, set_columns}
use Rattle.well_typed.specs.WellTyped.{AreInputs, set_columns_of}
use Rattle.plan_denote.specs.Computed.{Row}
use Rattle.plan_denote.specs.Order.{is_same}
use Rattle.plan_denote.specs.Distinct.{is_same_row, distinct, is_in, occurrences}
use Rattle.plan_denote.specs.Sets.{row_at, is_among, first_so_many, occurrences_in, fewest, set_of, first_fault, set_in, set_rows}
use Rattle.denote_typed.proofs.RowsLaws.{Rows, mapped, weakened, passed, distinct_all, flat_all, glued, unless_all}

-- a null that fits a type, and one that is the same as a value
allowed_in : (ty : Ty) (value : Value) → FitsTy ty value → values.Null ≡ value → IsTrue ty.nullable
allowed_in ty value fits is = fits.allowed (sym is)

same_null : (value : Value) → is_same values.Null value ≡ true → values.Null ≡ value
same_null values.Null same = refl
same_null (values.Bool _) same = absurd (cc)
same_null (values.Int _) same = absurd (cc)
same_null (values.Dec _) same = absurd (cc)
same_null (values.Bytes _) same = absurd (cc)

-- a row has a null at a place
abbrev HasNull : Row → ℕ → Type 0
HasNull row place = slice_get row place ≡ Some values.Null

some_value : (a b : Value) → Some a ≡ Some b → a ≡ b
some_value a b is = cc

-- the column of a null in a row that fits, and in one that is the same as a row that fits
fits_null : (columns : List Ty) (row : Row) (place : ℕ) → Fits columns row → HasNull row place → IsTrue (is_nullable_at place columns)
fits_null [] [] place fits null = absurd (cc)
fits_null [] (value ∷ row) place fits null = absurd fits
fits_null (ty ∷ columns) [] place fits null = absurd fits
fits_null (ty ∷ columns) (value ∷ row) zero fits null = fits.0.allowed (some_value value values.Null null)
fits_null (ty ∷ columns) (value ∷ row) (suc place) fits null = fits_null columns row place fits.1 null

same_has : (row other : Row) (place : ℕ) → is_same_row row other ≡ true → HasNull row place → HasNull other place
same_has [] [] place same null = null
same_has [] (b ∷ other) place same null = absurd (cc)
same_has (a ∷ row) [] place same null = absurd (cc)
same_has (a ∷ row) (b ∷ other) zero same null =
    let both = and_parts (is_same a b) (is_same_row row other) same in
    ap Some (sym (same_null b (subst (λ (one : Value). is_same one b ≡ true) (some_value a values.Null null) both.0)))
same_has (a ∷ row) (b ∷ other) (suc place) same null = same_has row other place (and_parts (is_same a b) (is_same_row row other) same).1 null

in_null : (columns : List Ty) (rows : List Row) (row : Row) (place : ℕ) → AllByRecursion (Fits columns) rows → is_in rows row ≡ true → HasNull row place → IsTrue (is_nullable_at place columns)
in_null columns [] row place all found null = absurd (cc)
in_null columns (other ∷ rows) row place all found null =
    elim (or_cases (is_same_row row other) (is_in rows row) found) [
      | inl here ↦ fits_null columns other place all.0 (same_has row other place here null)
      | inr later ↦ in_null columns rows row place all.1 later null
    ]

-- inputs whose rows fit their columns
abbrev pub AreInputsOf : List (List Ty) → List (List Row) → Type 0
AreInputsOf [] [] = Unit {0}
AreInputsOf (columns ∷ others) (rows ∷ inputs) = AllByRecursion (Fits columns) rows × AreInputsOf others inputs
AreInputsOf _ _ = ⊥

abbrev any_at : ℕ → List (List Ty) → Bool
any_at place others = list_any (λ other. other) (map (is_nullable_at place) others)

abbrev all_at : ℕ → List (List Ty) → Bool
all_at place others = list_all (λ other. other) (map (is_nullable_at place) others)

-- a null in a row that is in one of the inputs, and in one that is in each of them
any_null : (others : List (List Ty)) (inputs : List (List Row)) (row : Row) (place : ℕ) → AreInputsOf others inputs → list_any (λ rows. is_in rows row) inputs ≡ true → HasNull row place → IsTrue (any_at place others)
any_null [] [] row place fit found null = absurd (cc)
any_null [] (rows ∷ inputs) row place fit found null = absurd fit
any_null (columns ∷ others) [] row place fit found null = absurd fit
any_null (columns ∷ others) (rows ∷ inputs) row place fit found null =
    elim (or_cases (is_in rows row) (list_any (λ rows. is_in rows row) inputs) found) [
      | inl here ↦ or_left (is_nullable_at place columns) (any_at place others) (in_null columns rows row place fit.0 here null)
      | inr later ↦ or_right (is_nullable_at place columns) (any_at place others) (any_null others inputs row place fit.1 later null)
    ]

all_null : (others : List (List Ty)) (inputs : List (List Row)) (row : Row) (place : ℕ) → AreInputsOf others inputs → list_all (λ rows. is_in rows row) inputs ≡ true → HasNull row place → IsTrue (all_at place others)
all_null [] [] row place fit found null = refl
all_null [] (rows ∷ inputs) row place fit found null = absurd fit
all_null (columns ∷ others) [] row place fit found null = absurd fit
all_null (columns ∷ others) (rows ∷ inputs) row place fit found null =
    let both = and_parts (is_in rows row) (list_all (λ rows. is_in rows row) inputs) found in
    and_from (is_nullable_at place columns) (all_at place others) (in_null columns rows row place fit.0 both.0 null) (all_null others inputs row place fit.1 both.1 null)

-- a row that occurs is in the rows
occurs : (rows : List Row) (row : Row) → 0 < occurrences rows row → is_in rows row ≡ true
occurs [] row some = absurd (omega (arith, some))
occurs (other ∷ rows) row some = by_test (is_same_row row other) (subst (λ (many : ℕ). 0 < many) (count_by-cons (is_same_row row) other rows) some) (occurs rows row)
  where
    by_test : (test : Bool) → 0 < cond test 1 0 + occurrences rows row → (0 < occurrences rows row → is_in rows row ≡ true) → (test || is_in rows row) ≡ true
    by_test true some later = refl
    by_test false some later = later (omega (arith, some))

fewest_first : (many : ℕ) (inputs : List (List Row)) (row : Row) → 0 < fewest many inputs row → 0 < many
fewest_first many [] row some = some
fewest_first many (rows ∷ inputs) row some = fewest_first many inputs row (omega (arith, some))

fewest_in : (many : ℕ) (inputs : List (List Row)) (row : Row) → 0 < fewest many inputs row → list_all (λ rows. is_in rows row) inputs ≡ true
fewest_in many [] row some = refl
fewest_in many (rows ∷ inputs) row some =
    and_from (is_in rows row) (list_all (λ rows. is_in rows row) inputs) (occurs rows row (omega (arith, some))) (fewest_in many inputs row (omega (arith, some)))

-- the first so many of each row
row_of : (P : Row → Type 0) (rows : List Row) (place : ℕ) → AllByRecursion P rows → place < length rows → P (row_at rows place)
row_of P [] place all below = absurd (omega (arith, below))
row_of P (row ∷ rows) zero all below = all.0
row_of P (row ∷ rows) (suc place) all below = row_of P rows place all.1 (omega (arith, below))

some_of : (a b : ℕ) → nat_lt a b ≡ true → 0 < b
some_of a b is = grind (arith, nat_tests)

so_many : (P Q : Row → Type 0) (many : Row → ℕ) (rows : List Row) → AllByRecursion P rows → ((row : Row) → P row → 0 < many row → Q row) → AllByRecursion Q (first_so_many many rows)
so_many P Q many rows all k =
    mapped (λ (place : ℕ). Q (row_at rows place)) Q (row_at rows) (filter (is_among many rows) (range_with_len 0 (length rows)))
    (passed (λ (place : ℕ). place < length rows) (λ (place : ℕ). Q (row_at rows place)) (is_among many rows) (range_with_len 0 (length rows)) (all_places (length rows))
    (λ place below among. k (row_at rows place) (row_of P rows place all below) (some_of (occurrences (take place rows) (row_at rows place)) (many (row_at rows place)) among)))
    (λ place holds. holds)

-- as many columns of the same kinds
abbrev SameKinds : List Ty → List Ty → Type 0
SameKinds [] [] = Unit {0}
SameKinds (a ∷ first) (b ∷ other) = (a.kind ≡ b.kind) × SameKinds first other
SameKinds _ _ = ⊥

same_itself : (first : List Ty) → SameKinds first first
same_itself [] = tt
same_itself (ty ∷ first) = (refl, same_itself first)

same_kinds : (first other : List Ty) → IsTrue (are_of_kinds first other) → SameKinds first other
same_kinds [] [] is = tt
same_kinds [] (b ∷ other) is = absurd (cc)
same_kinds (a ∷ first) [] is = absurd (cc)
same_kinds (a ∷ first) (b ∷ other) is = let both = and_parts (is_equal a.kind b.kind) (are_of_kinds first other) is in (equal_kinds a.kind b.kind both.0, same_kinds first other both.1)

column_null : (columns : List Ty) (place : ℕ) (column : Ty) → slice_get columns place ≡ Some column → IsTrue (is_nullable_at place columns) → IsTrue column.nullable
column_null columns place column is nullable = subst (λ (one : Option Ty). IsTrue (option_map_or (λ (ty : Ty). ty.nullable) one false)) is nullable

module _ (op : SetOp) (others : List (List Ty)) where
  abbrev columns_from : ℕ → List Ty → List Ty
  columns_from start first = map (λ (numbered : ℕ × Ty). record numbered.1 { nullable = is_nullable_in op numbered.1.nullable (map (is_nullable_at numbered.0) others) }) (enumerate_from start first)

  -- where a row has a null the result's column may be null
  abbrev AreAllowed : ℕ → List Ty → Row → Type 0
  AreAllowed start first row = (place : ℕ) (column : Ty) → slice_get first place ≡ Some column → HasNull row place → IsTrue (is_nullable_in op column.nullable (map (is_nullable_at (start + place)) others))

  allowed_later : (start : ℕ) (ty : Ty) (first : List Ty) (value : Value) (row : Row) → AreAllowed start (ty ∷ first) (value ∷ row) → AreAllowed (start + 1) first row
  allowed_later start ty first value row k place column is null =
      subst (λ (at : ℕ). IsTrue (is_nullable_in op column.nullable (map (is_nullable_at at) others))) (omega arith) (k (suc place) column is null)

  moved_row : (start : ℕ) (first from : List Ty) (row : Row) → SameKinds first from → Fits from row → AreAllowed start first row → Fits (columns_from start first) row
  moved_row start [] [] [] same fits k = tt
  moved_row start [] [] (value ∷ row) same fits k = absurd fits
  moved_row start [] (b ∷ from) row same fits k = absurd same
  moved_row start (a ∷ first) [] row same fits k = absurd same
  moved_row start (a ∷ first) (b ∷ from) [] same fits k = absurd fits
  moved_row start (a ∷ first) (b ∷ from) (value ∷ row) same fits k = (
    record {
      in_kind = subst (λ (kind : Kind). InKind kind value) (sym same.0) fits.0.in_kind;
      short = fits.0.short;
      allowed = λ is. subst (λ (at : ℕ). IsTrue (is_nullable_in op a.nullable (map (is_nullable_at at) others))) (omega arith) (k 0 a refl (ap Some is));
    },
    moved_row (start + 1) first from row same.1 fits.1 (allowed_later start a first value row k),
  )

  abbrev AreAllowedIn : List Ty → Row → Type 0
  AreAllowedIn first row = (place : ℕ) (column : Ty) → slice_get first place ≡ Some column → HasNull row place → IsTrue (is_nullable_in op column.nullable (map (is_nullable_at place) others))

  set_row : (first from : List Ty) (row : Row) → SameKinds first from → Fits from row → AreAllowedIn first row → Fits (set_columns op first others) row
  set_row first from row same fits k = moved_row 0 first from row same fits (λ place column is null.
      subst (λ (at : ℕ). IsTrue (is_nullable_in op column.nullable (map (is_nullable_at at) others))) (omega arith) (k place column is null))

-- a null of the first input's row
first_null : (first : List Ty) (row : Row) (place : ℕ) (column : Ty) → Fits first row → slice_get first place ≡ Some column → HasNull row place → IsTrue column.nullable
first_null first row place column fits is null = column_null first place column is (fits_null first row place fits null)

unmapped : {A B : Type 0} (P : B → Type 0) (f : A → B) (xs : List A) → AllByRecursion P (map f xs) → AllByRecursion (λ x. P (f x)) xs
unmapped P f [] all = tt
unmapped P f (x ∷ xs) all = (all.0, unmapped P f xs all.1)

module _ (first : List Ty) (others : List (List Ty)) where
  abbrev Given : SetOp → Row → Type 0
  Given op = Fits (set_columns op first others)

  -- a row of the first input, by what is known where it has nulls
  of_first : (op : SetOp) (row : Row) → Fits first row → AreAllowedIn op others first row → Given op row
  of_first op row fits k = set_row op others first first row (same_itself first) fits k

  of_primary : (row : Row) → Fits first row → Given ops.MinusPrimary row
  of_primary row fits = of_first ops.MinusPrimary row fits (λ place column is null. first_null first row place column fits is null)

  of_union : (row : Row) → Fits first row → Given ops.UnionAll row
  of_union row fits = of_first ops.UnionAll row fits (λ place column is null. or_left column.nullable (any_at place others) (first_null first row place column fits is null))

  -- a row of another input of a union
  of_other : (other : List Ty) (row : Row) → IsTrue (are_of_kinds first other) → ((place : ℕ) → IsTrue (is_nullable_at place other) → IsTrue (any_at place others)) → Fits other row → Given ops.UnionAll row
  of_other other row same k fits = set_row ops.UnionAll others first other row (same_kinds first other same) fits (λ place column is null.
      or_right column.nullable (any_at place others) (k place (fits_null other row place fits null)))

  of_others : (rest : List (List Ty)) (inputs : List (List Row)) → AllByRecursion (λ other. IsTrue (are_of_kinds first other)) rest → AreInputsOf rest inputs
      → ((place : ℕ) → IsTrue (any_at place rest) → IsTrue (any_at place others)) → AllByRecursion (AllByRecursion (Given ops.UnionAll)) inputs
  of_others [] [] same fit k = tt
  of_others [] (rows ∷ inputs) same fit k = absurd fit
  of_others (other ∷ rest) [] same fit k = absurd fit
  of_others (other ∷ rest) (rows ∷ inputs) same fit k = (
    weakened (Fits other) (Given ops.UnionAll) rows fit.0 (λ row fits. of_other other row same.0 (λ place null. k place (or_left (is_nullable_at place other) (any_at place rest) null)) fits),
    of_others rest inputs same.1 fit.1 (λ place null. k place (or_right (is_nullable_at place other) (any_at place rest) null)),
  )

  module _ (same : AllByRecursion (λ other. IsTrue (are_of_kinds first other)) others) (rows : List Row) (inputs : List (List Row)) (all : AllByRecursion (Fits first) rows) (fit : AreInputsOf others inputs) where
    of_any : (row : Row) → Fits first row → list_any (λ rows. is_in rows row) inputs ≡ true → Given ops.IntersectionPrimary row
    of_any row fits found = of_first ops.IntersectionPrimary row fits (λ place column is null.
        and_from column.nullable (any_at place others) (first_null first row place column fits is null) (any_null others inputs row place fit found null))

    of_all : (row : Row) → Fits first row → list_all (λ rows. is_in rows row) inputs ≡ true → Given ops.IntersectionMultiset row
    of_all row fits found = of_first ops.IntersectionMultiset row fits (λ place column is null.
        and_from column.nullable (all_at place others) (first_null first row place column fits is null) (all_null others inputs row place fit found null))

    of_inputs : AllByRecursion (AllByRecursion (Given ops.UnionAll)) (rows ∷ inputs)
    of_inputs = (weakened (Fits first) (Given ops.UnionAll) rows all of_union, of_others others inputs same fit (λ place null. null))

    distinct_fit : AllByRecursion (Fits first) (distinct is_same_row rows)
    distinct_fit = distinct_all (Fits first) is_same_row rows all

    of_op : (op : SetOp) → AllByRecursion (Given op) (set_of op rows inputs)
    of_op ops.MinusPrimary = passed (Fits first) (Given ops.MinusPrimary) (λ row. not (list_any (λ rows. is_in rows row) inputs)) (distinct is_same_row rows) distinct_fit (λ row fits _. of_primary row fits)
    of_op ops.MinusPrimaryAll = so_many (Fits first) (Given ops.MinusPrimary) (λ row. occurrences rows row - occurrences_in inputs row) rows all (λ row fits _. of_primary row fits)
    of_op ops.IntersectionPrimary = passed (Fits first) (Given ops.IntersectionPrimary) (λ row. list_any (λ rows. is_in rows row) inputs) (distinct is_same_row rows) distinct_fit of_any
    of_op ops.IntersectionMultiset = passed (Fits first) (Given ops.IntersectionMultiset) (λ row. list_all (λ rows. is_in rows row) inputs) (distinct is_same_row rows) distinct_fit of_all
    of_op ops.IntersectionMultisetAll = so_many (Fits first) (Given ops.IntersectionMultiset) (λ row. fewest (occurrences rows row) inputs row) rows all (λ row fits some. of_all row fits (fewest_in (occurrences rows row) inputs row some))
    of_op ops.UnionDistinct = distinct_all (Given ops.UnionAll) is_same_row (flat_map (λ rows. rows) (rows ∷ inputs)) (flat_all (AllByRecursion (Given ops.UnionAll)) (Given ops.UnionAll) (λ rows. rows) (rows ∷ inputs) of_inputs (λ rows fits. fits))
    of_op ops.UnionAll = flat_all (AllByRecursion (Given ops.UnionAll)) (Given ops.UnionAll) (λ rows. rows) (rows ∷ inputs) of_inputs (λ rows fits. fits)

abbrev pub rows_of : List (Stream Row) → List (List Row)
rows_of inputs = map (λ (input : Stream Row). input.rows) inputs

by_op : (op : SetOp) (first : List Ty) (others : List (List Ty)) (input : Stream Row) (inputs : List (Stream Row)) → AllByRecursion (λ other. IsTrue (are_of_kinds first other)) others
    → AreInputsOf (first ∷ others) (rows_of (input ∷ inputs)) → Rows (Fits (set_columns op first others)) (set_rows op (input ∷ inputs))
unfolding set_rows
by_op ops.UnionAll first others input inputs same fit =
    let Given = Fits (set_columns ops.UnionAll first others) in
    glued Given (input ∷ inputs) (unmapped (AllByRecursion Given) (λ (one : Stream Row). one.rows) (input ∷ inputs) (of_inputs first others same input.rows (rows_of inputs) fit.0 fit.1))
by_op op first others input inputs same fit =
    unless_all (Fits (set_columns op first others)) (first_fault (input ∷ inputs)) (rows_alone (set_in op (rows_of (input ∷ inputs)))) (of_op first others same input.rows (rows_of inputs) fit.0 fit.1 op)

-- the rows of a set operation
pub set_fits : (op : SetOp) (columns : List (List Ty)) (inputs : List (Stream Row)) → AreInputs columns → AreInputsOf columns (rows_of inputs) → Rows (Fits (set_columns_of op columns)) (set_rows op inputs)
set_fits op [] inputs are fit = absurd are
set_fits op (first ∷ []) inputs are fit = absurd are
set_fits op (first ∷ second ∷ others) [] are fit = absurd fit
set_fits op (first ∷ second ∷ others) (input ∷ inputs) are fit = by_op op first (second ∷ others) input inputs are fit
