-- What is arranged: under a function, by orders that agree, and of lists that were arranged one by one.
use Rattle.std.proofs.Common.{◌≡◌, ◌∙◌, List, [], ◌∷◌, ◌++◌, Bool, true, false, cond, refl, sym, ap, map}
use Rattle.std.proofs.lemmas.List.Elements.{filter-append}
use Rattle.std.specs.Cmp.{IsTotalOrder}
use Rattle.std.specs.List.{AllByRecursion, flat_map, filter}
use Rattle.std.specs.List.Sorted.{ties}
use Rattle.std.specs.Ordering.{is_lt, is_gt, on}
use Rattle.std.specs.declared.cmp.Ordering.{Ordering}
use Rattle.plan_denote.specs.Sort.{placed, arranged}
use Rattle.plan_denote.proofs.SortLaws.{arrangement, is_arranged}

module _ {A B : Type 0} (f : A → B) (cmp : B → B → Ordering) where
  map_by : (x y : A) (ys : List A) → map f (placed (on f cmp) x ys) ≡ placed cmp (f x) (map f ys) → (test : Bool)
      → map f (cond test (y ∷ placed (on f cmp) x ys) (x ∷ y ∷ ys)) ≡ cond test (f y ∷ placed cmp (f x) (map f ys)) (f x ∷ f y ∷ map f ys)
  map_by x y ys ih true = ap (λ rest. f y ∷ rest) ih
  map_by x y ys ih false = refl

  map-placed : (x : A) (ys : List A) → map f (placed (on f cmp) x ys) ≡ placed cmp (f x) (map f ys)
  map-placed x [] = refl
  map-placed x (y ∷ ys) = map_by x y ys (map-placed x ys) (is_gt (cmp (f x) (f y)))

  -- items that are ordered by what a function gives of them
  pub map-arranged : (xs : List A) → map f (arranged (on f cmp) xs) ≡ arranged cmp (map f xs)
  map-arranged [] = refl
  map-arranged (x ∷ xs) = map-placed x (arranged (on f cmp) xs) ∙ ap (placed cmp (f x)) (map-arranged xs)

module _ {A : Type 0} (P : A → Type 0) where
  all_by : (cmp : A → A → Ordering) (x y : A) (ys : List A) → P x → P y → AllByRecursion P ys → AllByRecursion P (placed cmp x ys) → (test : Bool)
      → AllByRecursion P (cond test (y ∷ placed cmp x ys) (x ∷ y ∷ ys))
  all_by cmp x y ys here next rest ih true = (next, ih)
  all_by cmp x y ys here next rest ih false = (here, (next, rest))

  all_placed : (cmp : A → A → Ordering) (x : A) (ys : List A) → P x → AllByRecursion P ys → AllByRecursion P (placed cmp x ys)
  all_placed cmp x [] here rest = (here, tt)
  all_placed cmp x (y ∷ ys) here rest = all_by cmp x y ys here rest.0 rest.1 (all_placed cmp x ys here rest.1) (is_gt (cmp x y))

  -- what holds of all items holds of them arranged
  pub all_arranged : (cmp : A → A → Ordering) (xs : List A) → AllByRecursion P xs → AllByRecursion P (arranged cmp xs)
  all_arranged cmp [] all = tt
  all_arranged cmp (x ∷ xs) all = all_placed cmp x (arranged cmp xs) all.0 (all_arranged cmp xs all.1)

  module _ (cmp other : A → A → Ordering) (agree : (x y : A) → P x → P y → cmp x y ≡ other x y) where
    placed_alike : (x : A) (ys : List A) → P x → AllByRecursion P ys → placed cmp x ys ≡ placed other x ys
    placed_alike x [] here rest = refl
    placed_alike x (y ∷ ys) here rest =
        ap (λ test. cond test (y ∷ placed cmp x ys) (x ∷ y ∷ ys)) (ap is_gt (agree x y here rest.0))
        ∙ ap (λ more. cond (is_gt (other x y)) (y ∷ more) (x ∷ y ∷ ys)) (placed_alike x ys here rest.1)

    -- two orders that agree on the items arrange them alike
    pub arranged_alike : (xs : List A) → AllByRecursion P xs → arranged cmp xs ≡ arranged other xs
    arranged_alike [] all = refl
    arranged_alike (x ∷ xs) all = ap (placed cmp x) (arranged_alike xs all.1) ∙ placed_alike x (arranged other xs) all.0 (all_arranged other xs all.1)

module _ {A : Type 0} (cmp : A → A → Ordering) (total : IsTotalOrder cmp) where
  abbrev lt : A → A → Bool
  lt x y = is_lt (cmp x y)

  kept_in : (x : A) (runs : List (List A)) → filter (ties lt x) (flat_map (arranged cmp) runs) ≡ filter (ties lt x) (flat_map (λ run. run) runs)
  kept_in x [] = refl
  kept_in x (run ∷ runs) =
      filter-append (ties lt x) (arranged cmp run) (flat_map (arranged cmp) runs)
      ∙ ap (λ front. front ++ filter (ties lt x) (flat_map (arranged cmp) runs)) ((arrangement cmp total run).stable x)
      ∙ ap (λ back. filter (ties lt x) run ++ back) (kept_in x runs)
      ∙ sym (filter-append (ties lt x) run (flat_map (λ run. run) runs))

  -- lists that were arranged one by one are arranged together as they would have been before
  pub arranged-runs : (runs : List (List A)) → arranged cmp (flat_map (arranged cmp) runs) ≡ arranged cmp (flat_map (λ run. run) runs)
  arranged-runs runs =
      let whole = arrangement cmp total (flat_map (arranged cmp) runs) in
      is_arranged cmp total (flat_map (λ run. run) runs) (arranged cmp (flat_map (arranged cmp) runs)) (record { sorted = whole.sorted; stable = λ x. whole.stable x ∙ kept_in x runs })
