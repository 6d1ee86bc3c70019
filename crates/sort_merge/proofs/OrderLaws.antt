-- Rows and places by some columns.
use Rattle.std.proofs.Common.{◌≡◌, ◌∙◌, List, [], ◌∷◌, ◌++◌, Bool, true, false, ◌&&◌, refl, sym, ap, subst, map}
use Rattle.std.proofs.lemmas.Cmp.{on_total, then_total, tied_itself}
use Rattle.std.proofs.lemmas.Simd.{map-map}
use Rattle.std.specs.Cmp.{IsTotalOrder, bool_cmp_total}
use Rattle.std.specs.List.{AllByRecursion, flat_map}
use Rattle.std.specs.Ordering.{bool_cmp, on, ordering_then}
use Rattle.std.specs.declared.cmp.Ordering.{Ordering}
use Rattle.std.specs.declared.cmp.Ordering.TheVariants.{Equal}
use Rattle.sub_types.specs.Stream.{rows_alone}
use Rattle.plan_denote.proofs.OrderLaws.{key_cmp_total}
use Rattle.plan_denote.proofs.SortLaws.{is_arranged}
use Rattle.plan_denote.specs.Rows.{Row}
use Rattle.plan_denote.specs.Sort.{IsArrangement, arranged, sorted_rows, key_cmp, Keyed}
use Rattle.plan_pipes.specs.RowMeaning.{keyed_by, direction_in, sorted_by}
use Rattle.rel_specs.specs.declared.key_order.KeyOrder.{KeyOrder}
use Rattle.sort_merge.specs.RowOrder.{in_order, row_cmp, place_cmp}
use Rattle.sort_merge.proofs.ArrangedLaws.{map-arranged, all_arranged, arranged_alike, arranged-runs}

pub row_total : (keys : List KeyOrder) → IsTotalOrder (row_cmp keys)
row_total keys = on_total (λ row. (keyed_by keys row).0) (key_cmp_total (map direction_in keys))

itself : (rows : List Row) → map (λ row. row) rows ≡ rows
itself [] = refl
itself (row ∷ rows) = ap (λ rest. row ∷ rest) (itself rows)

-- the rows in order are the rows arranged
pub in_order_is : (keys : List KeyOrder) (rows : List Row) → in_order keys rows ≡ arranged (row_cmp keys) rows
unfolding sorted_rows
in_order_is keys rows =
    ap (map (λ (one : Keyed). one.1)) (sym (map-arranged (keyed_by keys) (on (λ (one : Keyed). one.0) (key_cmp (map direction_in keys))) rows))
    ∙ map-map (λ (one : Keyed). one.1) (keyed_by keys) (arranged (row_cmp keys) rows)
    ∙ itself (arranged (row_cmp keys) rows)

-- what pipelines say of it
pub sorted_is : (keys : List KeyOrder) (rows : List Row) → sorted_by keys (rows_alone rows) ≡ rows_alone (in_order keys rows)
unfolding sorted_by
sorted_is keys rows = refl

flat_alike : {A B : Type 0} (f g : A → List B) → ((x : A) → f x ≡ g x) → (xs : List A) → flat_map f xs ≡ flat_map g xs
flat_alike f g same [] = refl
flat_alike f g same (x ∷ xs) = ap (λ front. front ++ flat_map f xs) (same x) ∙ ap (λ back. g x ++ back) (flat_alike f g same xs)

-- runs that are in order, put in order together, are the whole in order
pub in_order-runs : (keys : List KeyOrder) (runs : List (List Row)) → in_order keys (flat_map (in_order keys) runs) ≡ in_order keys (flat_map (λ run. run) runs)
in_order-runs keys runs =
    ap (in_order keys) (flat_alike (in_order keys) (arranged (row_cmp keys)) (in_order_is keys) runs)
    ∙ in_order_is keys (flat_map (arranged (row_cmp keys)) runs)
    ∙ arranged-runs (row_cmp keys) (row_total keys) runs
    ∙ sym (in_order_is keys (flat_map (λ run. run) runs))

module _ {P : Type 0} (keys : List KeyOrder) (is_there : P → Bool) (row_at : P → Row) where
  pub place_total : IsTotalOrder (place_cmp keys is_there row_at)
  place_total = then_total (on_total is_there bool_cmp_total) (on_total row_at (row_total keys))

  -- where rows are at both places, the rows decide
  pub by_rows : (a b : P) → is_there a ≡ true → is_there b ≡ true → place_cmp keys is_there row_at a b ≡ row_cmp keys (row_at a) (row_at b)
  by_rows a b here there =
      ap (λ test. ordering_then (bool_cmp test (is_there b)) (row_cmp keys (row_at a) (row_at b))) here
      ∙ ap (λ test. ordering_then (bool_cmp true test) (row_cmp keys (row_at a) (row_at b))) there

  tests_decide : (first second : Bool) (o : Ordering) → first && second ≡ false → (first ≡ false → second ≡ false → o ≡ Equal) → ordering_then (bool_cmp first second) o ≡ bool_cmp first second
  tests_decide true true o not_both tied = absurd (cc)
  tests_decide true false o not_both tied = refl
  tests_decide false true o not_both tied = refl
  tests_decide false false o not_both tied = tied refl refl

  -- else whether there are rows
  pub by_tests : ((a : P) → is_there a ≡ false → row_at a ≡ []) → (a b : P) → is_there a && is_there b ≡ false → place_cmp keys is_there row_at a b ≡ bool_cmp (is_there a) (is_there b)
  by_tests none a b not_both =
      tests_decide (is_there a) (is_there b) (row_cmp keys (row_at a) (row_at b)) not_both (λ no_first no_second.
      ap (λ row. row_cmp keys row (row_at b)) (none a no_first ∙ sym (none b no_second)) ∙ tied_itself (row_total keys) (row_at b))

  -- places of rows in order hold the rows in order
  pub rows_at : (places ordered : List P) → AllByRecursion (λ a. is_there a ≡ true) places → IsArrangement (place_cmp keys is_there row_at) places ordered → map row_at ordered ≡ in_order keys (map row_at places)
  rows_at places ordered all is =
      ap (map row_at) (is_arranged (place_cmp keys is_there row_at) place_total places ordered is)
      ∙ ap (map row_at) (arranged_alike (λ a. is_there a ≡ true) (place_cmp keys is_there row_at) (on row_at (row_cmp keys)) by_rows places all)
      ∙ map-arranged row_at (row_cmp keys) places
      ∙ sym (in_order_is keys (map row_at places))

  -- and a row is at each of them
  pub there_at : (places ordered : List P) → AllByRecursion (λ a. is_there a ≡ true) places → IsArrangement (place_cmp keys is_there row_at) places ordered → AllByRecursion (λ a. is_there a ≡ true) ordered
  there_at places ordered all is =
      subst (AllByRecursion (λ a. is_there a ≡ true)) (sym (is_arranged (place_cmp keys is_there row_at) place_total places ordered is)) (all_arranged (λ a. is_there a ≡ true) (place_cmp keys is_there row_at) places all)
