-- How many blocks files have.
use Rattle.std.proofs.Common.{◌≡◌, ◌∙◌, ℕ, ◌+◌, ◌<◌, List, [], ◌∷◌, ◌++◌, length, map, get_or, take, refl, sym, ap}
use Rattle.std.specs.List.{flat_map, sum_by}
use Rattle.std.proofs.lemmas.List.{take_more, append-nil}
use Rattle.std.proofs.lemmas.List.Concat.{flat_map-append}
use Rattle.std.proofs.lemmas.List.Sums.{sum_by-cons, sum_by-append}

-- a sum over what each element is seen as
pub sum_map : {A B : Type 0} (f : B → ℕ) (h : A → B) (xs : List A) → sum_by f (map h xs) ≡ sum_by (λ x. f (h x)) xs
sum_map f h [] = refl
sum_map f h (x ∷ xs) = sum_by-cons f (h x) (map h xs) ∙ ap (λ n. f (h x) + n) (sum_map f h xs) ∙ sym (sum_by-cons (λ y. f (h y)) x xs)

-- a sum over one list more
pub sum_more : {A B : Type 0} (f : B → ℕ) (h : A → List B) (xs : List A) (i : ℕ) (x : A) → i < length xs → x ≡ get_or xs i x
    → sum_by f (flat_map h (take (i + 1) xs)) ≡ sum_by f (flat_map h (take i xs)) + sum_by f (h x)
sum_more f h xs i x below is =
    ap (λ l. sum_by f (flat_map h l)) (take_more xs i x below ∙ ap (λ y. take i xs ++ y ∷ []) (sym is))
    ∙ ap (sum_by f) (flat_map-append h (take i xs) (x ∷ []) ∙ ap (λ l. flat_map h (take i xs) ++ l) (append-nil (h x)))
    ∙ sum_by-append f (flat_map h (take i xs)) (h x)

-- the lists one after another
pub flat : {A B : Type 0} (f : A → List B) (xs : List A) → flat_map (λ (l : List B). l) (map f xs) ≡ flat_map f xs
flat f [] = refl
flat f (x ∷ xs) = ap (λ rest. f x ++ rest) (flat f xs)

-- a sum over all lists
pub sum_flat : {A B : Type 0} (f : B → ℕ) (h : A → List B) (xs : List A) → sum_by f (flat_map (λ (l : List B). l) (map h xs)) ≡ sum_by f (flat_map h xs)
sum_flat f h xs = ap (sum_by f) (flat h xs)
