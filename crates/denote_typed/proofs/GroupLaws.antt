-- Aggregates: the rows of groups.
use Rattle.std.proofs.Common.{◌≡◌, ℕ, zero, suc, ◌+◌, ◌≤◌, List, [], ◌∷◌, ◌++◌, Bool, true, false, not, Option, Some, None, Ok, IfOk, map, length, slice_index_or, refl, subst, arith}
use Rattle.std.specs.Prelude.{slice_get, nat_le}
use Rattle.std.specs.List.{AllByRecursion, enumerate_from, filter}
use Rattle.std.proofs.lemmas.Bool.Decides.{nat_tests}
use Rattle.sub_types.specs.declared.kind.Ty.{Ty}
use Rattle.sub_types.specs.declared.value.Value.{Value}
use Rattle.sub_types.specs.Stream.{Stream, rows_alone}
use Rattle.sub_types.specs.Value.{FitsTy, Fits}
use Rattle.plan_typed.specs.declared.expr.Expr.{Expr}
use Rattle.plan_typed.specs.declared.rel.TypedMeasure.{TypedMeasure}
use Rattle.plan_typed.specs.Types.{ty_of}
use Rattle.well_typed.specs.ExprTyped.{IsTypedOver}
use Rattle.well_typed.specs.WellTyped.{IsMeasureOver}
use Rattle.plan_denote.specs.Rows.{Row, ◌>>=◌, collect, values_at, each_row}
use Rattle.plan_denote.specs.Computed.{is_null}
use Rattle.plan_denote.specs.Distinct.{is_same_row}
use Rattle.plan_denote.specs.Eval.{eval}
use Rattle.plan_denote.specs.Aggregate.{MAX_INPUT, Measure, member_at, Entry, entry_of, keys_in, not_null, members_in, tally_of, Tally, final, Group, group_of, finals, group_row, groups_if, Summary, summary, rows_of_summary, aggregated}
use Rattle.plan_denote.specs.Denote.{measure_of}
use Rattle.denote_typed.proofs.FitLaws.{beside, values_fit}
use Rattle.denote_typed.proofs.MeasureLaws.{argument_type, IsTaken, member_fits, IsTally, AreValues, tally_is, final_fits}
use Rattle.denote_typed.proofs.RowsLaws.{Rows, mapped, filtered_all, distinct_all, filter_mapped, fewer_passed, fewer_found, stepped, either_all, each_row_all, from_all_rows}

-- measures, each of them in something else
module _ {X : Type 0} (of : X → TypedMeasure) where
  -- what each takes of a row
  abbrev pub AreTaken : List X → List (Option Value) → Type 0
  AreTaken [] [] = Unit {0}
  AreTaken (x ∷ xs) (taken ∷ members) = IsTaken (of x) taken × AreTaken xs members
  AreTaken _ _ = ⊥

  abbrev pub AreTyped : List Ty → List X → Type 0
  AreTyped types xs = AllByRecursion (λ x. IsMeasureOver types (of x)) xs

  -- the measures that are denoted, and their types
  abbrev pub measures_of : List X → List Measure
  measures_of xs = map (λ x. measure_of (of x)) xs

  abbrev pub types_of : List X → List Ty
  types_of xs = map (λ x. (of x).ty) xs

  members_fit : (types : List Ty) (xs : List X) (row : Row) → AreTyped types xs → Fits types row → IfOk (collect (map (member_at row) (measures_of xs))) (AreTaken xs)
  members_fit types [] row typed fits = tt
  members_fit types (x ∷ xs) row typed fits =
      let rest = collect (map (member_at row) (measures_of xs)) in
      stepped (IsTaken (of x)) (AreTaken (x ∷ xs)) (member_at row (measure_of (of x))) (λ taken. rest >>= (λ members. Ok (taken ∷ members))) (member_fits types (of x) row typed.0.arg fits) (λ taken is.
      stepped (AreTaken xs) (AreTaken (x ∷ xs)) rest (λ members. Ok (taken ∷ members)) (members_fit types xs row typed.1 fits) (λ members are. (is, are)))

  -- a row as a key and what is taken of it
  pub record IsEntry (keys : List Ty) (xs : List X) (entry : Entry) : Type 0 where
    pub key : Fits keys entry.0
    pub members : AreTaken xs entry.1

  pub entries_fit : (types : List Ty) (groups : List Expr) (xs : List X) (number : ℕ) (s : Stream Row) → AllByRecursion (IsTypedOver types) groups → AreTyped types xs → Rows (Fits types) s
      → Rows (IsEntry (map ty_of groups) xs) (each_row number (entry_of (map eval groups) (measures_of xs)) s)
  entries_fit types groups xs number s typed measures all =
      let keys = map ty_of groups in
      let Q = AllByRecursion (IsEntry keys xs) in
      each_row_all (Fits types) (IsEntry keys xs) number (entry_of (map eval groups) (measures_of xs)) s all (λ row fits.
      let members = collect (map (member_at row) (measures_of xs)) in
      stepped (Fits keys) Q (values_at (map eval groups) row) (λ key. members >>= (λ found. Ok ((key, found) ∷ []))) (values_fit types groups row typed fits) (λ key is.
      stepped (AreTaken xs) Q members (λ found. Ok ((key, found) ∷ [])) (members_fit types xs row measures fits) (λ found are. (record { key = is; members = are }, tt))))

  some_measure : (a b : X) → Some a ≡ Some b → a ≡ b
  some_measure a b is = cc

  taken_at : (xs : List X) (members : List (Option Value)) (place : ℕ) (x : X) → AreTaken xs members → slice_get xs place ≡ Some x → IsTaken (of x) (slice_index_or members place None)
  taken_at [] members place x are is = absurd (cc)
  taken_at (y ∷ xs) [] place x are is = absurd are
  taken_at (y ∷ xs) (taken ∷ members) zero x are is = subst (λ (one : X). IsTaken (of one) taken) (some_measure y x is) are.0
  taken_at (y ∷ xs) (taken ∷ members) (suc place) x are is = taken_at xs members place x are.1 is

  -- what a measure takes in a group
  pub members_are : (keys : List Ty) (xs : List X) (entries : List Entry) (key : Row) (place : ℕ) (x : X) → AllByRecursion (IsEntry keys xs) entries → length entries ≤ MAX_INPUT → slice_get xs place ≡ Some x
      → AreValues (argument_type (of x).arg) (members_in entries key place)
  members_are keys xs entries key place x all few is =
      let own = filter (λ (entry : Entry). is_same_row key entry.0) entries in
      record {
        few = omega (arith, few, fewer_passed (λ (entry : Entry). is_same_row key entry.0) entries, fewer_found (λ (entry : Entry). slice_index_or entry.1 place None) own);
        all =
            filter_mapped (IsEntry keys xs) (FitsTy (argument_type (of x).arg)) (λ (entry : Entry). slice_index_or entry.1 place None) own
            (filtered_all (IsEntry keys xs) (λ (entry : Entry). is_same_row key entry.0) entries all) (λ entry is_entry. taken_at xs entry.1 place x is_entry.members is);
      }

  pub not_null_are : (ty : Ty) (members : List Value) → AreValues ty members → AreValues ty (not_null members)
  not_null_are ty members are = record {
    few = omega (arith, are.few, fewer_passed (λ (value : Value). not (is_null value)) members);
    all = filtered_all (FitsTy ty) (λ (value : Value). not (is_null value)) members are.all;
  }

  -- a tally for each measure
  abbrev pub AreTallies : List X → List Tally → Type 0
  AreTallies [] [] = Unit {0}
  AreTallies (x ∷ xs) (tally ∷ tallies) = IsTally (argument_type (of x).arg).kind tally × AreTallies xs tallies
  AreTallies _ _ = ⊥

  module _ {Y : Type 0} (den : X → Y) (given : ℕ × Y → List Value) (xs : List X) (k : (place : ℕ) (x : X) → slice_get xs place ≡ Some x → AreValues (argument_type (of x).arg) (given (place, den x))) where
    tallies_from : (start : ℕ) (rest : List X) → ((place : ℕ) → slice_get xs (start + place) ≡ slice_get rest place) → AreTallies rest (map (λ (one : ℕ × Y). tally_of (given one)) (enumerate_from start (map den rest)))
    tallies_from start [] same = tt
    tallies_from start (x ∷ rest) same = (
      tally_is (argument_type (of x).arg) (given (start, den x)) (k start x (subst (λ (at : ℕ). slice_get xs at ≡ Some x) (omega arith) (same 0))),
      tallies_from (start + 1) rest (λ place. subst (λ (at : ℕ). slice_get xs at ≡ slice_get rest place) (omega arith) (same (suc place))),
    )

    pub tallies_are : AreTallies xs (map (λ (one : ℕ × Y). tally_of (given one)) (enumerate_from 0 (map den xs)))
    tallies_are = tallies_from 0 xs (λ place. subst (λ (at : ℕ). slice_get xs at ≡ slice_get xs place) (omega arith) refl)

  -- the values of the measures
  pub finals_fit : (types : List Ty) (xs : List X) (tallies : List Tally) → AreTyped types xs → AreTallies xs tallies → IfOk (finals (measures_of xs) tallies) (Fits (types_of xs))
  finals_fit types [] [] typed are = tt
  finals_fit types [] (tally ∷ tallies) typed are = absurd are
  finals_fit types (x ∷ xs) [] typed are = absurd are
  finals_fit types (x ∷ xs) (tally ∷ tallies) typed are =
      let rest = finals (measures_of xs) tallies in
      stepped (FitsTy (of x).ty) (Fits (types_of (x ∷ xs))) (final (of x).func (of x).ty.kind tally) (λ value. rest >>= (λ more. Ok (value ∷ more))) (final_fits types (of x) tally typed.0 are.0) (λ value fit.
      stepped (Fits (types_of xs)) (Fits (types_of (x ∷ xs))) rest (λ more. Ok (value ∷ more)) (finals_fit types xs tallies typed.1 are.1) (λ more fits. (fit, fits)))

  -- a group by a key that fits
  pub record IsGroup (keys : List Ty) (xs : List X) (group : Group) : Type 0 where
    pub key : Fits keys group.key
    pub tallies : AreTallies xs group.tallies

-- the keys of groups: without grouping expressions the one that is given
pub keys_fit : {A : Type 0} (keys : List Ty) (groups : List A) (alone : Row) (entries : List Entry) → (groups ≡ [] → Fits keys alone) → AllByRecursion (λ (entry : Entry). Fits keys entry.0) entries
    → AllByRecursion (Fits keys) (keys_in groups alone entries)
keys_fit keys [] alone entries k all = (k refl, tt)
keys_fit keys (group ∷ groups) alone entries k all =
    distinct_all (Fits keys) is_same_row (map (λ (entry : Entry). entry.0) entries) (mapped (λ (entry : Entry). Fits keys entry.0) (Fits keys) (λ (entry : Entry). entry.0) entries all (λ entry fits. fits))

pub few_entries : (size : ℕ) → nat_le size MAX_INPUT ≡ true → size ≤ MAX_INPUT
few_entries size is = grind (arith, nat_tests)

-- an aggregate without sets
abbrev itself : TypedMeasure → TypedMeasure
itself measure = measure

no_keys : (groups : List Expr) → map eval groups ≡ [] → Fits (map ty_of groups) []
no_keys [] is = tt
no_keys (group ∷ groups) is = absurd (cc)

module _ (types : List Ty) (groups : List Expr) (measures : List TypedMeasure) (typed : AllByRecursion (IsTypedOver types) groups) (typed_measures : AllByRecursion (IsMeasureOver types) measures) where
  abbrev keys : List Ty
  keys = map ty_of groups

  group_is : (entries : List Entry) (key : Row) → AllByRecursion (IsEntry itself keys measures) entries → length entries ≤ MAX_INPUT → Fits keys key → IsGroup itself keys measures (group_of (map measure_of measures) entries key)
  group_is entries key all few fits = record {
    key = fits;
    tallies =
        tallies_are itself measure_of (λ (one : ℕ × Measure). not_null (members_in entries key one.0)) measures (λ place measure is.
        not_null_are itself (argument_type measure.arg) (members_in entries key place) (members_are itself keys measures entries key place measure all few is));
  }

  groups_are : (entries : List Entry) (test : Bool) → (test ≡ true → length entries ≤ MAX_INPUT) → AllByRecursion (IsEntry itself keys measures) entries
      → AllByRecursion (IsGroup itself keys measures) (groups_if test (map (group_of (map measure_of measures) entries) (keys_in (map eval groups) [] entries)))
  groups_are entries false k all = tt
  groups_are entries true k all =
      mapped (Fits keys) (IsGroup itself keys measures) (group_of (map measure_of measures) entries) (keys_in (map eval groups) [] entries)
      (keys_fit keys (map eval groups) [] entries (no_keys groups) (mapped_keys entries all)) (λ key fits. group_is entries key all (k refl) fits)
    where
      mapped_keys : (entries : List Entry) → AllByRecursion (IsEntry itself keys measures) entries → AllByRecursion (λ (entry : Entry). Fits keys entry.0) entries
      mapped_keys [] all = tt
      mapped_keys (entry ∷ entries) all = (all.0.key, mapped_keys entries all.1)

  group_row_fits : (group : Group) → IsGroup itself keys measures group → IfOk (group_row (map measure_of measures) group) (AllByRecursion (Fits (keys ++ map (λ (one : TypedMeasure). one.ty) measures)))
  group_row_fits group is =
      let own = map (λ (one : TypedMeasure). one.ty) measures in
      stepped (Fits own) (AllByRecursion (Fits (keys ++ own))) (finals (map measure_of measures) group.tallies) (λ found. Ok ((group.key ++ found) ∷ [])) (finals_fit itself types measures group.tallies typed_measures is.tallies)
      (λ found fits. (beside keys own group.key found is.key fits, tt))

  rows_of_summary_fits : (number : ℕ) (known : Summary) → AllByRecursion (IsGroup itself keys measures) known.groups → Rows (Fits (keys ++ map (λ (one : TypedMeasure). one.ty) measures)) (rows_of_summary number (map measure_of measures) known)
  unfolding rows_of_summary
  rows_of_summary_fits number known all =
      let own = map (λ (one : TypedMeasure). one.ty) measures in
      either_all (Fits (keys ++ own)) (nat_le known.rows MAX_INPUT) (each_row number (group_row (map measure_of measures)) (rows_alone known.groups)) _
      (λ _. each_row_all (IsGroup itself keys measures) (Fits (keys ++ own)) number (group_row (map measure_of measures)) (rows_alone known.groups) all group_row_fits) (λ _. tt)

  summary_is : (entries : List Entry) → AllByRecursion (IsEntry itself keys measures) entries → AllByRecursion (IsGroup itself keys measures) (summary (map eval groups) (map measure_of measures) entries).groups
  unfolding summary
  summary_is entries all = groups_are entries (nat_le (length entries) MAX_INPUT) (few_entries (length entries)) all

  -- the rows of an aggregate
  pub aggregated_fits : (number : ℕ) (s : Stream Row) → Rows (Fits types) s → Rows (Fits (keys ++ map (λ (one : TypedMeasure). one.ty) measures)) (aggregated number (map eval groups) (map measure_of measures) s)
  unfolding aggregated
  aggregated_fits number s all =
      let entries = each_row number (entry_of (map eval groups) (map measure_of measures)) s in
      from_all_rows (Fits (keys ++ map (λ (one : TypedMeasure). one.ty) measures)) (λ found. rows_of_summary number (map measure_of measures) (summary (map eval groups) (map measure_of measures) found)) entries
      (rows_of_summary_fits number (summary (map eval groups) (map measure_of measures) entries.rows) (summary_is entries.rows (entries_fit itself types groups measures number s typed typed_measures all)))
