-- Texts joined one after the other, as a loop over them goes.
use Rattle.std.specs.Prelude.{◌≡◌, ℕ, suc, ◌+◌, ◌<◌, ◌≤◌, List, [], ◌∷◌, ◌++◌, length, map, take}
use Rattle.std.specs.List.{concat}
use Rattle.std.proofs.Common.{zero, refl, sym, ap, ◌∙◌, arith, append_assoc, length-append, get_or, add-one}
use Rattle.std.proofs.lemmas.List.{append-nil}
use Rattle.sub_types.specs.declared.value.Value.{Value}

-- one more text
more : (f : Value → List ℕ) (xs : List Value) (i : ℕ) (d : Value) → i < length xs → concat (map f (take (suc i) xs)) ≡ concat (map f (take i xs)) ++ f (get_or xs i d)
more f [] i d h = absurd (omega arith)
more f (x ∷ xs) zero d h = append-nil (f x)
more f (x ∷ xs) (suc i) d h =
    ap (λ rest. f x ++ rest) (more f xs i d (omega arith)) ∙ sym (append_assoc (f x) (concat (map f (take i xs))) (f (get_or xs i d)))

pub joined_more : (f : Value → List ℕ) (xs : List Value) (i : ℕ) (d : Value) → i < length xs → concat (map f (take (i + 1) xs)) ≡ concat (map f (take i xs)) ++ f (get_or xs i d)
joined_more f xs i d h = rw add-one (more f xs i d h)

-- the first texts aren't longer than all
pub joined_part : (f : Value → List ℕ) (xs : List Value) (i : ℕ) → length (concat (map f (take i xs))) ≤ length (concat (map f xs))
joined_part f [] zero = omega arith
joined_part f [] (suc i) = omega arith
joined_part f (x ∷ xs) zero = omega arith
joined_part f (x ∷ xs) (suc i) =
    omega (arith, length-append (f x) (concat (map f (take i xs))), length-append (f x) (concat (map f xs)), joined_part f xs i)

-- the same of what a loop has
pub joined_step : (f : Value → List ℕ) (xs : List Value) (i : ℕ) (item : Value) (old part new : List ℕ) → i < length xs → item ≡ get_or xs i item → old ≡ concat (map f (take i xs)) → part ≡ f item → new ≡ old ++ part → new ≡ concat (map f (take (i + 1) xs))
joined_step f xs i item old part new h e o p n =
    let m : concat (map f (take (i + 1) xs)) ≡ concat (map f (take i xs)) ++ f (get_or xs i item) = joined_more f xs i item h in
    cc

pub longer_step : (f : Value → List ℕ) (xs : List Value) (i : ℕ) (item : Value) (n : ℕ) (part : List ℕ) → i < length xs → item ≡ get_or xs i item → n ≡ length (concat (map f (take i xs))) → part ≡ f item → n + length part ≡ length (concat (map f (take (i + 1) xs)))
longer_step f xs i item n part h e o p =
    let m : concat (map f (take i xs)) ++ part ≡ concat (map f (take (i + 1) xs)) = (joined_step f xs i item (concat (map f (take i xs))) part (concat (map f (take i xs)) ++ part) h e refl p refl) in
    omega (arith, ap length m, length-append (concat (map f (take i xs))) part)
