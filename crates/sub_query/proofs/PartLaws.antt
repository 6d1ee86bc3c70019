-- The expressions of one relation with the values put in, one item after the other.
use Rattle.std.proofs.Common.{◌≡◌, ℕ, ◌+◌, ◌<◌, List, [], ◌∷◌, ◌++◌, Option, length, get_or, refl}
use Rattle.std.specs.List.{sum_by}
use Rattle.std.proofs.lemmas.List.Sums.{sum_by-cons}
use Rattle.plan_typed.specs.declared.expr.Expr.{Expr}
use Rattle.plan_typed.specs.declared.rel.SetMeasure.{SetMeasure}
use Rattle.plan_typed.specs.declared.rel.SortKey.{SortKey}
use Rattle.plan_typed.specs.declared.rel.TypedMeasure.{TypedMeasure}
use Rattle.plan_denote.specs.Holes.{Worth, filled_expr, all_from, size_of_all, rows_from, keys_from, measure_from, size_of_measure, measures_from, set_measures_from}
use Rattle.sub_query.specs.Parts.{key_from, set_measure_from}
use Rattle.sub_query.proofs.WalkLaws.{IsWalked, walked_more}

module _ (here : ℕ → Option Worth) where
  abbrev size_of_key : SortKey → ℕ
  size_of_key key = (filled_expr here key.expr).size

  abbrev size_of_set_measure : SetMeasure → ℕ
  size_of_set_measure one = size_of_measure here one.measure

  abbrev pub AreRows : ℕ → List (List Expr) → ℕ → List (List Expr) → ℕ → Type 0
  AreRows = IsWalked (rows_from here) (sum_by (size_of_all here))

  abbrev pub AreKeys : ℕ → List SortKey → ℕ → List SortKey → ℕ → Type 0
  AreKeys = IsWalked (keys_from here) (sum_by size_of_key)

  abbrev pub AreMeasures : ℕ → List TypedMeasure → ℕ → List TypedMeasure → ℕ → Type 0
  AreMeasures = IsWalked (measures_from here) (sum_by (size_of_measure here))

  abbrev pub AreSetMeasures : ℕ → List SetMeasure → ℕ → List SetMeasure → ℕ → Type 0
  AreSetMeasures = IsWalked (set_measures_from here) (sum_by size_of_set_measure)

  pub row_more : (start : ℕ) (items : List (List Expr)) (i : ℕ) (item d : List Expr) (made : List (List Expr)) (new : List Expr) (next after : ℕ) → i < length items → item ≡ get_or items i d
      → AreRows start items i made next → new ≡ all_from here next item → after ≡ next + size_of_all here item → AreRows start items (i + 1) (made ++ new ∷ []) after
  row_more = walked_more (all_from here) (size_of_all here) (rows_from here) (sum_by (size_of_all here)) (λ n. refl) (λ n x xs. refl) refl (sum_by-cons (size_of_all here))

  pub key_more : (start : ℕ) (items : List SortKey) (i : ℕ) (item d : SortKey) (made : List SortKey) (new : SortKey) (next after : ℕ) → i < length items → item ≡ get_or items i d
      → AreKeys start items i made next → new ≡ key_from here next item → after ≡ next + size_of_key item → AreKeys start items (i + 1) (made ++ new ∷ []) after
  key_more = walked_more (key_from here) size_of_key (keys_from here) (sum_by size_of_key) (λ n. refl) (λ n x xs. refl) refl (sum_by-cons size_of_key)

  pub measure_more : (start : ℕ) (items : List TypedMeasure) (i : ℕ) (item d : TypedMeasure) (made : List TypedMeasure) (new : TypedMeasure) (next after : ℕ) → i < length items → item ≡ get_or items i d
      → AreMeasures start items i made next → new ≡ measure_from here next item → after ≡ next + size_of_measure here item → AreMeasures start items (i + 1) (made ++ new ∷ []) after
  measure_more =
      walked_more (measure_from here) (size_of_measure here) (measures_from here) (sum_by (size_of_measure here)) (λ n. refl) (λ n x xs. refl) refl (sum_by-cons (size_of_measure here))

  pub set_measure_more : (start : ℕ) (items : List SetMeasure) (i : ℕ) (item d : SetMeasure) (made : List SetMeasure) (new : SetMeasure) (next after : ℕ) → i < length items → item ≡ get_or items i d
      → AreSetMeasures start items i made next → new ≡ set_measure_from here next item → after ≡ next + size_of_set_measure item → AreSetMeasures start items (i + 1) (made ++ new ∷ []) after
  set_measure_more =
      walked_more (set_measure_from here) size_of_set_measure (set_measures_from here) (sum_by size_of_set_measure) (λ n. refl) (λ n x xs. refl) refl (sum_by-cons size_of_set_measure)
