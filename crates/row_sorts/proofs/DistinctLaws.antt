-- Each item once: what the items behind known ones give, and by places.
use Rattle.std.proofs.Common.{◌≡◌, ◌∙◌, ℕ, zero, suc, ◌+◌, List, [], ◌∷◌, ◌++◌, Bool, true, false, not, ◌&&◌, ◌||◌, cond, length, map, take, get_or, refl, sym, ap, append_assoc, add-one}
use Rattle.std.specs.List.{filter, list_any, range_with_len}
use Rattle.std.proofs.lemmas.List.{append-nil}
use Rattle.std.proofs.lemmas.List.Folds.{list_any-append}
use Rattle.plan_denote.specs.Distinct.{distinct}

-- a test that doesn't tell apart two items of which it says that they are the same
pub record IsSameness {A : Type 0} (same : A → A → Bool) : Type 0 where
  pub symm : (x y : A) → same x y ≡ same y x
  pub congr : (x y z : A) → same x y ≡ true → same x z ≡ same y z

-- whether an item is none of the known ones
abbrev pub is_new : {A : Type 0} → (A → A → Bool) → List A → A → Bool
is_new same known y = not (list_any (same y) known)

-- what a list gives behind known items
abbrev pub news : {A : Type 0} → (A → A → Bool) → List A → List A → List A
news same known xs = filter (is_new same known) (distinct same xs)

twice_head : {A : Type 0} (p : A → Bool) (b : Bool) (x : A) (ys zs : List A) → filter p ys ≡ zs → filter p (cond b (x ∷ ys) ys) ≡ cond (b && p x) (x ∷ zs) zs
twice_head p true x ys zs e = ap (λ l. cond (p x) (x ∷ l) l) e
twice_head p false x ys zs e = e

pub filter_twice : {A : Type 0} (p q : A → Bool) (xs : List A) → filter p (filter q xs) ≡ filter (λ y. q y && p y) xs
filter_twice p q [] = refl
filter_twice p q (x ∷ xs) = twice_head p (q x) x (filter q xs) (filter (λ y. q y && p y) xs) (filter_twice p q xs)

pub filter_alike : {A : Type 0} (p q : A → Bool) → ((x : A) → p x ≡ q x) → (xs : List A) → filter p xs ≡ filter q xs
filter_alike p q h [] = refl
filter_alike p q h (x ∷ xs) = ap (λ b. cond b (x ∷ filter p xs) (filter p xs)) (h x) ∙ ap (λ l. cond (q x) (x ∷ l) l) (filter_alike p q h xs)

filter_all : {A : Type 0} (p : A → Bool) → ((x : A) → p x ≡ true) → (xs : List A) → filter p xs ≡ xs
filter_all p h [] = refl
filter_all p h (x ∷ xs) = ap (λ b. cond b (x ∷ filter p xs) (filter p xs)) (h x) ∙ ap (λ l. x ∷ l) (filter_all p h xs)

pub news_of_none : {A : Type 0} (same : A → A → Bool) (xs : List A) → news same [] xs ≡ distinct same xs
news_of_none same xs = filter_all (is_new same []) (λ x. refl) (distinct same xs)

-- what is the same is among the same
any_along : {A : Type 0} {same : A → A → Bool} → IsSameness same → (known : List A) (x y : A) → same x y ≡ true → list_any (same x) known ≡ list_any (same y) known
any_along s [] x y e = refl
any_along {same = same} s (z ∷ known) x y e = ap (λ b. b || list_any (same x) known) (s.congr x y z e) ∙ ap (λ b. same y z || b) (any_along s known x y e)

-- one more known item
also_not : (a b : Bool) → not a && not b ≡ not (b || (a || false))
also_not true true = refl
also_not true false = refl
also_not false true = refl
also_not false false = refl

one_more_is_new : {A : Type 0} {same : A → A → Bool} → IsSameness same → (known : List A) (x y : A) → not (same x y) && is_new same known y ≡ is_new same (known ++ x ∷ []) y
one_more_is_new {same = same} s known x y =
    also_not (same x y) (list_any (same y) known)
    ∙ ap (λ b. not (list_any (same y) known || (b || false))) (s.symm x y)
    ∙ ap not (sym (list_any-append (same y) known (x ∷ [])))

-- an item that is new
pub news_of_new : {A : Type 0} {same : A → A → Bool} → IsSameness same → (known xs : List A) (x : A) → list_any (same x) known ≡ false → news same known (x ∷ xs) ≡ x ∷ news same (known ++ x ∷ []) xs
news_of_new {same = same} s known xs x e =
    let rest = filter (is_new same known) (filter (λ y. not (same x y)) (distinct same xs)) in
    ap (λ b. cond (not b) (x ∷ rest) rest) e
    ∙ ap (λ l. x ∷ l)
    (filter_twice (is_new same known) (λ y. not (same x y)) (distinct same xs)
    ∙ filter_alike (λ y. not (same x y) && is_new same known y) (is_new same (known ++ x ∷ [])) (one_more_is_new s known x) (distinct same xs))

-- an item that is known
known_stays : {A : Type 0} {same : A → A → Bool} → IsSameness same → (known : List A) (x y : A) (b : Bool) → list_any (same x) known ≡ true → same x y ≡ b → not b && is_new same known y ≡ is_new same known y
known_stays s known x y true e is = sym (ap not (sym (any_along s known x y is) ∙ e))
known_stays s known x y false e is = refl

pub news_of_known : {A : Type 0} {same : A → A → Bool} → IsSameness same → (known xs : List A) (x : A) → list_any (same x) known ≡ true → news same known (x ∷ xs) ≡ news same known xs
news_of_known {same = same} s known xs x e =
    let rest = filter (is_new same known) (filter (λ y. not (same x y)) (distinct same xs)) in
    ap (λ b. cond (not b) (x ∷ rest) rest) e
    ∙ filter_twice (is_new same known) (λ y. not (same x y)) (distinct same xs)
    ∙ filter_alike (λ y. not (same x y) && is_new same known y) (is_new same known) (λ y. known_stays s known x y (same x y) e refl) (distinct same xs)

-- a known item more tells nothing
or_known : (a b : Bool) → a ≡ true → a || b ≡ a
or_known true b e = refl
or_known false b e = absurd (cc)

or_neither : (a : Bool) → a || (false || false) ≡ a
or_neither true = refl
or_neither false = refl

known_again : {A : Type 0} {same : A → A → Bool} → IsSameness same → (known : List A) (x y : A) (b : Bool) → list_any (same x) known ≡ true → same y x ≡ b → list_any (same y) known || (b || false) ≡ list_any (same y) known
known_again {same = same} s known x y true e is = or_known (list_any (same y) known) (true || false) (sym (any_along s known x y (s.symm x y ∙ is)) ∙ e)
known_again {same = same} s known x y false e is = or_neither (list_any (same y) known)

news_again : {A : Type 0} {same : A → A → Bool} → IsSameness same → (known xs : List A) (x : A) → list_any (same x) known ≡ true → news same (known ++ x ∷ []) xs ≡ news same known xs
news_again {same = same} s known xs x e =
    filter_alike (is_new same (known ++ x ∷ [])) (is_new same known)
    (λ y. ap not (list_any-append (same y) known (x ∷ []) ∙ known_again s known x y (same y x) e refl)) (distinct same xs)

-- the loop begins, and takes one more item: what is found so far, and the news of what is left
pub none_found : {A : Type 0} (same : A → A → Bool) (found xs all : List A) → found ≡ [] → xs ≡ all → found ++ news same found xs ≡ distinct same all
none_found same found xs all f e = ap (λ l. l ++ news same l xs) f ∙ news_of_none same xs ∙ ap (distinct same) e

pub found_new : {A : Type 0} {same : A → A → Bool} → IsSameness same → (found more old xs all : List A) (x : A) → list_any (same x) found ≡ false → more ≡ found ++ x ∷ [] → old ≡ x ∷ xs → found ++ news same found old ≡ all → more ++ news same more xs ≡ all
found_new {same = same} s found more old xs all x e m o h =
    ap (λ l. l ++ news same l xs) m
    ∙ append_assoc found (x ∷ []) (news same (found ++ x ∷ []) xs)
    ∙ sym (ap (λ l. found ++ l) (ap (news same found) o ∙ news_of_new s found xs x e))
    ∙ h

pub found_known : {A : Type 0} {same : A → A → Bool} → IsSameness same → (found old xs all : List A) (x : A) → list_any (same x) found ≡ true → old ≡ x ∷ xs → found ++ news same found old ≡ all → found ++ news same found xs ≡ all
found_known {same = same} s found old xs all x e o h = sym (ap (λ l. found ++ l) (ap (news same found) o ∙ news_of_known s found xs x e)) ∙ h

-- the places before which an item like the one there doesn't stand
abbrev pub is_new_at : {A : Type 0} → (A → A → Bool) → A → List A → List A → ℕ → Bool
is_new_at same d known xs place = is_new same (known ++ take place xs) (get_or xs place d)

abbrev pub new_places : {A : Type 0} → (A → A → Bool) → A → List A → List A → List A
new_places same d known xs = map (λ place. get_or xs place d) (filter (is_new_at same d known xs) (range_with_len 0 (length xs)))

-- places counted from one
counted_on : (from n : ℕ) → range_with_len (from + 1) n ≡ map (λ k. k + 1) (range_with_len from n)
counted_on from zero = refl
counted_on from (suc n) = ap (λ l. (from + 1) ∷ l) (counted_on (from + 1) n)

picked_head : {A : Type 0} (f g : ℕ → A) (b : Bool) (j k : ℕ) (js ks : List ℕ) → f j ≡ g k → map f js ≡ map g ks → map f (cond b (j ∷ js) js) ≡ map g (cond b (k ∷ ks) ks)
picked_head f g true j k js ks e h = ap (λ x. x ∷ map f js) e ∙ ap (λ l. g k ∷ l) h
picked_head f g false j k js ks e h = h

picked_on : {A : Type 0} (f g : ℕ → A) (p q : ℕ → Bool) → ((k : ℕ) → f (k + 1) ≡ g k) → ((k : ℕ) → p (k + 1) ≡ q k) → (ks : List ℕ) → map f (filter p (map (λ k. k + 1) ks)) ≡ map g (filter q ks)
picked_on f g p q ef ep [] = refl
picked_on f g p q ef ep (k ∷ ks) =
    ap (λ b. map f (cond b ((k + 1) ∷ filter p (map (λ k. k + 1) ks)) (filter p (map (λ k. k + 1) ks)))) (ep k)
    ∙ picked_head f g (q k) (k + 1) k (filter p (map (λ k. k + 1) ks)) (filter q ks) (ef k) (picked_on f g p q ef ep ks)

at_next : {A : Type 0} (x d : A) (xs : List A) (k : ℕ) → get_or (x ∷ xs) (k + 1) d ≡ get_or xs k d
at_next x d xs k = ap (λ n. get_or (x ∷ xs) n d) (add-one k)

new_at_next : {A : Type 0} (same : A → A → Bool) (d x : A) (known xs : List A) (k : ℕ) → is_new_at same d known (x ∷ xs) (k + 1) ≡ is_new_at same d (known ++ x ∷ []) xs k
new_at_next same d x known xs k =
    ap (λ n. is_new same (known ++ take n (x ∷ xs)) (get_or (x ∷ xs) n d)) (add-one k)
    ∙ ap (λ l. is_new same l (get_or xs k d)) (sym (append_assoc known (x ∷ []) (take k xs)))

places_on : {A : Type 0} (same : A → A → Bool) (d x : A) (known xs : List A) → map (λ place. get_or (x ∷ xs) place d) (filter (is_new_at same d known (x ∷ xs)) (range_with_len 1 (length xs))) ≡ new_places same d (known ++ x ∷ []) xs
places_on same d x known xs =
    ap (λ l. map (λ place. get_or (x ∷ xs) place d) (filter (is_new_at same d known (x ∷ xs)) l)) (counted_on 0 (length xs))
    ∙ picked_on (λ place. get_or (x ∷ xs) place d) (λ place. get_or xs place d) (is_new_at same d known (x ∷ xs)) (is_new_at same d (known ++ x ∷ []) xs) (at_next x d xs) (new_at_next same d x known xs) (range_with_len 0 (length xs))

first_place : {A : Type 0} {same : A → A → Bool} → IsSameness same → (d x : A) (known xs : List A) (b : Bool) → list_any (same x) known ≡ b → news same (known ++ x ∷ []) xs ≡ new_places same d (known ++ x ∷ []) xs → news same known (x ∷ xs) ≡ cond (not b) (x ∷ new_places same d (known ++ x ∷ []) xs) (new_places same d (known ++ x ∷ []) xs)
first_place s d x known xs true e h = news_of_known s known xs x e ∙ sym (news_again s known xs x e) ∙ h
first_place s d x known xs false e h = news_of_new s known xs x e ∙ ap (λ l. x ∷ l) h

map_cond : {A : Type 0} (f : ℕ → A) (b : Bool) (k : ℕ) (ks : List ℕ) → map f (cond b (k ∷ ks) ks) ≡ cond b (f k ∷ map f ks) (map f ks)
map_cond f true k ks = refl
map_cond f false k ks = refl

-- by places
pub news_by_places : {A : Type 0} {same : A → A → Bool} → IsSameness same → (d : A) (xs known : List A) → news same known xs ≡ new_places same d known xs
news_by_places s d [] known = refl
news_by_places {same = same} s d (x ∷ xs) known =
    let places = filter (is_new_at same d known (x ∷ xs)) (range_with_len 1 (length xs)) in
    first_place s d x known xs (list_any (same x) known) refl (news_by_places s d xs (known ++ x ∷ []))
    ∙ sym (ap (λ l. cond (is_new same known x) (x ∷ l) l) (places_on same d x known xs))
    ∙ sym (map_cond (λ place. get_or (x ∷ xs) place d) (is_new same known x) 0 places)
    ∙ ap (λ l. map (λ place. get_or (x ∷ xs) place d) (cond (is_new same l x) (0 ∷ places) places)) (sym (append-nil known))

pub distinct_by_places : {A : Type 0} {same : A → A → Bool} → IsSameness same → (d : A) (xs : List A) → distinct same xs ≡ new_places same d [] xs
distinct_by_places {same = same} s d xs = sym (news_of_none same xs) ∙ news_by_places s d xs []
