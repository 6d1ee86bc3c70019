-- Tests and optional values over ranges and lists.
use Rattle.std.proofs.Common.{◌≡◌, ◌∙◌, ℕ, zero, suc, ◌+◌, ◌<◌, List, [], ◌∷◌, ◌++◌, length, map, take, get_or, Bool, true, false, ◌&&◌, Option, Some, None, IfSome, refl, sym, ap, subst, arith}
use Rattle.std.specs.Option.{option_map}
use Rattle.std.proofs.lemmas.List.{take_more, map-append}
use Rattle.sub_types.specs.Optional.{optional}
use Rattle.sub_types.specs.OptionSteps.{◌>>=◌, all_of}

-- both tests
pub and_left : (a b : Bool) → (a && b) ≡ true → a ≡ true
and_left true b h = refl
and_left false b h = h

pub and_right : (a b : Bool) → (a && b) ≡ true → b ≡ true
and_right true b h = h
and_right false b h = absurd (cc)

-- all values so far and one more
pub all_of-push : {A : Type 0} (found : List (Option A)) (one : Option A) (xs : List A) (x : A) → all_of found ≡ Some xs → one ≡ Some x → all_of (found ++ one ∷ []) ≡ Some (xs ++ x ∷ [])
all_of-push [] one xs x all here = let none : [] ≡ xs = cc in rw (here, ← none) refl
all_of-push (Some y ∷ found) one xs x all here =
    elim (all_of found) as (λ r. r ≡ all_of found → (r >>= λ ys. Some (y ∷ ys)) ≡ Some xs → all_of (Some y ∷ (found ++ one ∷ [])) ≡ Some (xs ++ x ∷ [])) [
      | Some ys ↦ λ e h. let rest = all_of-push found one ys x (sym e) here in let same : y ∷ ys ≡ xs = cc in rw (rest, ← same) refl
      | None ↦ λ e h. absurd (cc)
    ] refl all
all_of-push (None ∷ found) one xs x all here = absurd (cc)

-- a function of optional values
pub optional-map : {A B : Type 0} (f : A → B) (xs : List A) (valid : List Bool) → map (option_map f) (optional xs valid) ≡ optional (map f xs) valid
optional-map f [] valid = refl
optional-map f (x ∷ xs) [] = refl
optional-map f (x ∷ xs) (true ∷ valid) = ap (λ rest. Some (f x) ∷ rest) (optional-map f xs valid)
optional-map f (x ∷ xs) (false ∷ valid) = ap (λ rest. None ∷ rest) (optional-map f xs valid)

-- one step more of what each element gives
pub all_of-step : {A B : Type 0} (f : A → Option B) (xs : List A) (i : ℕ) (d : A) (ys : List B) (y : B) → i < length xs → all_of (map f (take i xs)) ≡ Some ys → f (get_or xs i d) ≡ Some y
    → all_of (map f (take (i + 1) xs)) ≡ Some (ys ++ y ∷ [])
all_of-step f xs i d ys y below all here =
    ap (λ zs. all_of (map f zs)) (take_more xs i d below) ∙ ap all_of (map-append f (take i xs) (get_or xs i d ∷ [])) ∙ all_of-push (map f (take i xs)) (f (get_or xs i d)) ys y all here

-- an element that gives nothing
pub all_of-missing : {A B : Type 0} (f : A → Option B) (xs : List A) (i : ℕ) (d : A) → i < length xs → f (get_or xs i d) ≡ None → all_of (map f xs) ≡ None
all_of-missing f [] i d below missing = absurd (omega arith)
all_of-missing f (x ∷ xs) zero d below missing = rw missing refl
all_of-missing f (x ∷ xs) (suc i) d below missing =
    elim (f x) as (λ r. (r >>= λ y. all_of (map f xs) >>= λ ys. Some (y ∷ ys)) ≡ None) [ Some y ↦ rw (all_of-missing f xs i d (omega arith) missing) refl | None ↦ refl ]

-- a function of one element more
pub map-take_more : {A B : Type 0} (f : A → B) (xs : List A) (i : ℕ) (d : A) → i < length xs → map f (take i xs) ++ f (get_or xs i d) ∷ [] ≡ map f (take (i + 1) xs)
map-take_more f xs i d below = sym (ap (map f) (take_more xs i d below) ∙ map-append f (take i xs) (get_or xs i d ∷ []))

-- what is so of the value that there is
pub of_some : {A B : Type 0} (found : Option A) (x : A) (f : A → B) (y : B) → found ≡ Some x → IfSome found (λ z. f z ≡ y) → f x ≡ y
of_some found x f y is so = let P : Option _ → Type 0 = λ o. IfSome o (λ z. f z ≡ y) in subst P is so
