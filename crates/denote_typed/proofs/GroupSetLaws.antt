-- Aggregates over sets of groups: null for the groups that a set lacks, and the set's number.
use Rattle.std.proofs.Common.{◌≡◌, ◌∙◌, ℕ, zero, suc, ◌+◌, ◌≤◌, ◌<◌, pos, List, [], ◌∷◌, ◌++◌, Bool, true, false, cond, not, ◌&&◌, ◌==◌, Some, Ok, IfOk, IsTrue, map, length, slice_index_or, refl, sym, ap, subst, arith}
use Rattle.std.specs.Prelude.{FitsSigned, slice_get, nat_le, if◌then◌else◌}
use Rattle.std.specs.Int.{w32}
use Rattle.std.specs.List.{AllByRecursion, list_any, list_all, range_with_len, enumerate_from}
use Rattle.std.proofs.lemmas.Bool.{or_left, or_right}
use Rattle.std.proofs.lemmas.Bool.Decides.{nat_tests}
use Rattle.std.proofs.lemmas.List.{length-map}
use Rattle.std.proofs.lemmas.Option.{slice_get_within}
use Rattle.std.proofs.lemmas.Simd.{map-map}
use Rattle.sub_types.specs.declared.kind.Ty.{Ty}
use Rattle.sub_types.specs.declared.value.Value.{Value}
use Rattle.sub_types.specs.declared.value.Value.TheVariants as values
use Rattle.sub_types.specs.Stream.{Stream, rows_alone, glue}
use Rattle.sub_types.specs.Value.{FitsTy, Fits}
use Rattle.plan_typed.specs.declared.expr.Expr.{Expr}
use Rattle.plan_typed.specs.declared.rel.SetMeasure.{SetMeasure}
use Rattle.plan_typed.specs.declared.rel.TypedMeasure.{TypedMeasure}
use Rattle.plan_typed.specs.Types.{ty_of}
use Rattle.well_typed.specs.Columns.{MAX_GROUPINGS, has_place, group_type, number_column}
use Rattle.well_typed.specs.ExprTyped.{IsTypedOver}
use Rattle.well_typed.specs.WellTyped.{IsMeasureOver, IsSetMeasureOver}
use Rattle.plan_denote.specs.Rows.{Row, each_row}
use Rattle.plan_denote.specs.Order.{is_same}
use Rattle.plan_denote.specs.Eval.{eval}
use Rattle.plan_denote.specs.Join.{nulls}
use Rattle.plan_denote.specs.Aggregate.{MAX_INPUT, Measure, Entry, entry_of, keys_in, not_null, members_in, Group, finals}
use Rattle.plan_denote.specs.GroupSets.{AnyMeasure, key_over, entry_in, once, group_over, set_number, set_row, rows_of_set, rows_of_sets, grouping_sets}
use Rattle.plan_denote.specs.Denote.{any_measure}
use Rattle.eval_typed.proofs.Fit.{null_fits, number_fits, moved}
use Rattle.denote_typed.proofs.FitLaws.{beside}
use Rattle.denote_typed.proofs.GroupLaws.{IsEntry, IsGroup, measures_of, entries_fit, members_are, not_null_are, tallies_are, finals_fit, keys_fit, few_entries}
use Rattle.denote_typed.proofs.MeasureLaws.{argument_type, AreValues}
use Rattle.denote_typed.proofs.RowsLaws.{Rows, mapped, weakened, distinct_all, fewer_distinct, glued, stepped, either_all, each_row_all, from_all_rows}

-- each item at its place
module _ {X : Type 0} (xs : List X) where
  numbered_from : (start : ℕ) (rest : List X) → ((place : ℕ) → slice_get xs (start + place) ≡ slice_get rest place) → AllByRecursion (λ (one : ℕ × X). slice_get xs one.0 ≡ Some one.1) (enumerate_from start rest)
  numbered_from start [] same = tt
  numbered_from start (x ∷ rest) same = (
    subst (λ (at : ℕ). slice_get xs at ≡ Some x) (omega arith) (same 0),
    numbered_from (start + 1) rest (λ place. subst (λ (at : ℕ). slice_get xs at ≡ slice_get rest place) (omega arith) (same (suc place))),
  )

  numbered : AllByRecursion (λ (one : ℕ × X). slice_get xs one.0 ≡ Some one.1) (enumerate_from 0 xs)
  numbered = numbered_from 0 xs (λ place. subst (λ (at : ℕ). slice_get xs at ≡ slice_get xs place) (omega arith) refl)

-- a place that one of the sets lacks
some_set : (a b : List ℕ) → Some a ≡ Some b → a ≡ b
some_set a b is = cc

lacks_one : (sets : List (List ℕ)) (set : List ℕ) (index place : ℕ) → slice_get sets index ≡ Some set → has_place place set ≡ false → list_all (has_place place) sets ≡ false
lacks_one [] set index place is lacks = absurd (cc)
lacks_one (first ∷ sets) set zero place is lacks = ap (λ test. test && list_all (has_place place) sets) (ap (has_place place) (some_set first set is) ∙ lacks)
lacks_one (first ∷ sets) set (suc index) place is lacks = by_test (has_place place first) (lacks_one sets set index place is lacks)
  where
    by_test : (test : Bool) → list_all (has_place place) sets ≡ false → (test && list_all (has_place place) sets) ≡ false
    by_test true rest = rest
    by_test false rest = refl

module _ (sets : List (List ℕ)) where
  abbrev columns_from : ℕ → List Expr → List Ty
  columns_from start groups = map (group_type sets) (enumerate_from start groups)

  may_lack : (expr : Expr) (place : ℕ) → list_all (has_place place) sets ≡ false → IsTrue (group_type sets (place, expr)).nullable
  may_lack expr place lacks = or_right (ty_of expr).nullable (not (list_all (has_place place) sets)) (ap not lacks)

  nulls_from : (start : ℕ) (groups : List Expr) → ((place : ℕ) → list_all (has_place place) sets ≡ false) → Fits (columns_from start groups) (nulls (length (map eval groups)))
  nulls_from start [] k = tt
  nulls_from start (expr ∷ groups) k = (null_fits (group_type sets (start, expr)) (may_lack expr start (k start)), nulls_from (start + 1) groups k)

  module _ (set : List ℕ) (k : (place : ℕ) → has_place place set ≡ false → list_all (has_place place) sets ≡ false) where
    module _ (key : Row) where
      part_at : ℕ → Value
      part_at place = if list_any (λ one. one == place) set then slice_index_or key place values.Null else values.Null

      part_fits : (expr : Expr) (place : ℕ) (test : Bool) → has_place place set ≡ test → FitsTy (ty_of expr) (slice_index_or key place values.Null)
          → FitsTy (group_type sets (place, expr)) (if test then slice_index_or key place values.Null else values.Null)
      part_fits expr place true is fits = moved (ty_of expr) (group_type sets (place, expr)) (slice_index_or key place values.Null) refl (or_left (ty_of expr).nullable (not (list_all (has_place place) sets))) fits
      part_fits expr place false is fits = null_fits (group_type sets (place, expr)) (may_lack expr place (k place is))

      parts_from : (start : ℕ) (groups : List Expr) (rest : Row) → ((place : ℕ) → slice_index_or key (start + place) values.Null ≡ slice_index_or rest place values.Null) → Fits (map ty_of groups) rest
          → Fits (columns_from start groups) (map (λ place. if list_any (λ one. one == place) set then slice_index_or key place values.Null else values.Null) (range_with_len start (length rest)))
      parts_from start [] [] same fits = tt
      parts_from start [] (value ∷ rest) same fits = absurd fits
      parts_from start (expr ∷ groups) [] same fits = absurd fits
      parts_from start (expr ∷ groups) (value ∷ rest) same fits = (
        part_fits expr start (has_place start set) refl (subst (FitsTy (ty_of expr)) (sym (subst (λ (at : ℕ). slice_index_or key at values.Null ≡ value) (omega arith) (same 0))) fits.0),
        parts_from (start + 1) groups rest (λ place. subst (λ (at : ℕ). slice_index_or key at values.Null ≡ slice_index_or rest place values.Null) (omega arith) (same (suc place))) fits.1,
      )

    key_fits : (groups : List Expr) (key : Row) → Fits (map ty_of groups) key → Fits (columns_from 0 groups) (key_over set key)
    key_fits groups key fits = parts_from key 0 groups key (λ place. subst (λ (at : ℕ). slice_index_or key at values.Null ≡ slice_index_or key place values.Null) (omega arith) refl) fits

-- the number of a set
two_sets : (count : ℕ) → nat_le (suc (suc count)) 1 ≡ false
two_sets count = grind (arith, nat_tests)

set_number_fits : (place : ℕ) → place < MAX_GROUPINGS → FitsSigned w32 (pos place)
set_number_fits place small = record { sfits = omega (arith, small) }

number_fits_column : (sets : List (List ℕ)) (place : ℕ) → place < length sets → length sets ≤ MAX_GROUPINGS → Fits (number_column sets) (set_number sets place)
number_fits_column [] place below few = tt
number_fits_column (set ∷ []) place below few = tt
number_fits_column (set ∷ other ∷ sets) place below few =
    subst (λ (test : Bool). Fits (cond test [] (number_column ([] ∷ [] ∷ []))) (values.Int (pos place) ∷ [])) (sym (two_sets (length sets)))
    (number_fits _ (pos place) (set_number_fits place (omega (arith, below, few))), tt)

abbrev measure_in : SetMeasure → TypedMeasure
measure_in one = one.measure

-- each value once
once_are : (ty : Ty) (test : Bool) (members : List Value) → AreValues ty members → AreValues ty (once test members)
once_are ty true members are = record { few = omega (arith, are.few, fewer_distinct is_same members); all = distinct_all (FitsTy ty) is_same members are.all }
once_are ty false members are = are

module _ (types : List Ty) (groups : List Expr) (sets : List (List ℕ)) (measures : List SetMeasure) (typed : AllByRecursion (IsTypedOver types) groups) (few_sets : length sets ≤ MAX_GROUPINGS)
    (typed_measures : AllByRecursion (IsSetMeasureOver types) measures) where
  abbrev keys : List Ty
  keys = map (group_type sets) (enumerate_from 0 groups)

  abbrev own : List Ty
  own = map (λ (one : SetMeasure). one.measure.ty) measures

  abbrev Given : Row → Type 0
  Given = Fits (keys ++ own ++ number_column sets)

  own_typed : AllByRecursion (λ (one : SetMeasure). IsMeasureOver types one.measure) measures
  own_typed = weakened (IsSetMeasureOver types) (λ (one : SetMeasure). IsMeasureOver types one.measure) measures typed_measures (λ one is. is.measure)

  denoted : map (λ (one : AnyMeasure). one.measure) (map any_measure measures) ≡ measures_of measure_in measures
  denoted = map-map _ _ measures

  module _ (set : List ℕ) (index : ℕ) (is : slice_get sets index ≡ Some set) where
    entries_in : (entries : List Entry) → AllByRecursion (IsEntry measure_in (map ty_of groups) measures) entries → AllByRecursion (IsEntry measure_in keys measures) (map (entry_in set) entries)
    entries_in entries all =
        mapped (IsEntry measure_in (map ty_of groups) measures) (IsEntry measure_in keys measures) (entry_in set) entries all
        (λ entry one. record { key = key_fits sets set (λ place lacks. lacks_one sets set index place is lacks) groups entry.0 one.key; members = one.members })

    group_is : (entries : List Entry) (key : Row) → AllByRecursion (IsEntry measure_in keys measures) entries → length entries ≤ MAX_INPUT → Fits keys key → IsGroup measure_in keys measures (group_over (map any_measure measures) entries key)
    group_is entries key all few fits = record {
      key = fits;
      tallies =
          tallies_are measure_in any_measure (λ (one : ℕ × AnyMeasure). not_null (once one.1.distinct (members_in entries key one.0))) measures (λ place one at.
          let ty = argument_type one.measure.arg in
          not_null_are measure_in ty (once one.distinct (members_in entries key place)) (once_are ty one.distinct (members_in entries key place) (members_are measure_in keys measures entries key place one all few at)));
    }

    set_row_fits : (number : Row) (group : Group) → Fits (number_column sets) number → IsGroup measure_in keys measures group → IfOk (set_row (map any_measure measures) number group) (AllByRecursion Given)
    set_row_fits number group fits one =
        stepped (Fits own) (AllByRecursion Given) (finals (map (λ (one : AnyMeasure). one.measure) (map any_measure measures)) group.tallies) (λ found. Ok ((group.key ++ found ++ number) ∷ []))
        (subst (λ (all : List Measure). IfOk (finals all group.tallies) (Fits own)) (sym denoted) (finals_fit measure_in types measures group.tallies own_typed one.tallies))
        (λ found fit. (beside (keys ++ own) (number_column sets) (group.key ++ found) number (beside keys own group.key found one.key fit) fits, tt))

    alone_fits : set ≡ [] → Fits keys (nulls (length (map eval groups)))
    alone_fits empty = nulls_from sets 0 groups (λ place. lacks_one sets set index place is (ap (has_place place) empty))

    own_keys : (entries : List Entry) → AllByRecursion (IsEntry measure_in keys measures) entries → AllByRecursion (λ (entry : Entry). Fits keys entry.0) entries
    own_keys entries all = weakened (IsEntry measure_in keys measures) (λ (entry : Entry). Fits keys entry.0) entries all (λ entry one. one.key)

    set_fits : (number : ℕ) (entries : List Entry) → AllByRecursion (IsEntry measure_in (map ty_of groups) measures) entries → length entries ≤ MAX_INPUT
        → Rows Given (rows_of_set number (length (map eval groups)) (map any_measure measures) entries set (set_number sets index))
    set_fits number entries all few =
        let inside = map (entry_in set) entries in
        let are = entries_in entries all in
        let alone = nulls (length (map eval groups)) in
        each_row_all (IsGroup measure_in keys measures) Given number (set_row (map any_measure measures) (set_number sets index)) (rows_alone (map (group_over (map any_measure measures) inside) (keys_in set alone inside)))
        (mapped (Fits keys) (IsGroup measure_in keys measures) (group_over (map any_measure measures) inside) (keys_in set alone inside) (keys_fit keys set alone inside alone_fits (own_keys inside are))
        (λ key fits. group_is inside key are (omega (arith, few, length-map entries (entry_in set))) fits))
        (λ group one. set_row_fits (set_number sets index) group (number_fits_column sets index (slice_get_within sets index set is) few_sets) one)

  sets_fit : (number : ℕ) (entries : List Entry) → AllByRecursion (IsEntry measure_in (map ty_of groups) measures) entries → Rows Given (rows_of_sets number (length (map eval groups)) sets (map any_measure measures) entries)
  unfolding rows_of_sets
  sets_fit number entries all =
      let of_set = λ (one : ℕ × List ℕ). rows_of_set number (length (map eval groups)) (map any_measure measures) entries one.1 (set_number sets one.0) in
      either_all Given (nat_le (length entries) MAX_INPUT) (glue (map of_set (enumerate_from 0 sets))) _
      (λ few. glued Given (map of_set (enumerate_from 0 sets))
      (mapped (λ (one : ℕ × List ℕ). slice_get sets one.0 ≡ Some one.1) (Rows Given) of_set (enumerate_from 0 sets) (numbered sets) (λ one is. set_fits one.1 one.0 is number entries all (few_entries (length entries) few))))
      (λ _. tt)

  -- the rows of an aggregate over sets of groups
  pub grouping_sets_fit : (number : ℕ) (s : Stream Row) → Rows (Fits types) s → Rows Given (grouping_sets number (map eval groups) sets (map any_measure measures) s)
  unfolding grouping_sets
  grouping_sets_fit number s all =
      let plain = map (λ (one : AnyMeasure). one.measure) (map any_measure measures) in
      let entries = each_row number (entry_of (map eval groups) plain) s in
      from_all_rows Given (rows_of_sets number (length (map eval groups)) sets (map any_measure measures)) entries
      (sets_fit number entries.rows
      (subst (λ (these : List Measure). AllByRecursion (IsEntry measure_in (map ty_of groups) measures) (each_row number (entry_of (map eval groups) these) s).rows) (sym denoted)
      (entries_fit measure_in types groups measures number s typed own_typed all)))
