-- Each item once, of two lists one behind the other.
use Rattle.std.proofs.Common.{◌≡◌, ◌∙◌, List, [], ◌∷◌, ◌++◌, Bool, true, false, not, ◌&&◌, ◌||◌, cond, refl, sym, ap}
use Rattle.std.specs.List.{filter, list_any}
use Rattle.std.proofs.lemmas.List.Elements.{filter-append}
use Rattle.plan_denote.specs.Distinct.{distinct}
use Rattle.group_laws.proofs.SameLaws.{IsSameness}

-- whether an item is none of the known ones
abbrev pub is_new : {A : Type 0} → (A → A → Bool) → List A → A → Bool
is_new same known y = not (list_any (same y) known)

filter_head : {A : Type 0} (p : A → Bool) (b : Bool) (x : A) (ys : List A) → filter p (cond b (x ∷ ys) ys) ≡ cond (b && p x) (x ∷ filter p ys) (filter p ys)
filter_head p true x ys = refl
filter_head p false x ys = refl

pub filter_twice : {A : Type 0} (p q : A → Bool) (xs : List A) → filter p (filter q xs) ≡ filter (λ y. q y && p y) xs
filter_twice p q [] = refl
filter_twice p q (x ∷ xs) = filter_head p (q x) x (filter q xs) ∙ ap (λ l. cond (q x && p x) (x ∷ l) l) (filter_twice p q xs)

pub filter_alike : {A : Type 0} (p q : A → Bool) → ((x : A) → p x ≡ q x) → (xs : List A) → filter p xs ≡ filter q xs
filter_alike p q h [] = refl
filter_alike p q h (x ∷ xs) = ap (λ b. cond b (x ∷ filter p xs) (filter p xs)) (h x) ∙ ap (λ l. cond (q x) (x ∷ l) l) (filter_alike p q h xs)

-- a test that gives the same of items that are the same
abbrev pub Respects : {A : Type 0} → (A → A → Bool) → (A → Bool) → Type 0
Respects {A} same p = (x y : A) → same x y ≡ true → p x ≡ p y

and_swap : (a b : Bool) → a && b ≡ b && a
and_swap true true = refl
and_swap true false = refl
and_swap false true = refl
and_swap false false = refl

filter_swap : {A : Type 0} (p q : A → Bool) (xs : List A) → filter p (filter q xs) ≡ filter q (filter p xs)
filter_swap p q xs = filter_twice p q xs ∙ filter_alike (λ y. q y && p y) (λ y. p y && q y) (λ y. and_swap (q y) (p y)) xs ∙ sym (filter_twice q p xs)

narrower : (a b : Bool) → (a ≡ true → b ≡ true) → b && a ≡ a
narrower true b h = ap (λ t. t && true) (h refl)
narrower false true h = refl
narrower false false h = refl

-- what passes the narrower test passes the wider one
pub filter_narrower : {A : Type 0} (p q : A → Bool) → ((x : A) → p x ≡ true → q x ≡ true) → (xs : List A) → filter p (filter q xs) ≡ filter p xs
filter_narrower p q h xs = filter_twice p q xs ∙ filter_alike (λ y. q y && p y) p (λ y. narrower (p y) (q y) (h y)) xs

not_true : (b : Bool) → not b ≡ true → b ≡ false
not_true true e = absurd (cc)
not_true false e = refl

is_not : (a b c : Bool) → (c ≡ true → b ≡ a) → b ≡ false → a ≡ true → not c ≡ true
is_not a b true h f t = absurd (let e = h refl in cc)
is_not a b false h f t = refl

distinct_head : {A : Type 0} (same : A → A → Bool) → (p : A → Bool) → Respects same p → (x : A) (xs : List A) (b : Bool) → p x ≡ b
    → distinct same (filter p xs) ≡ filter p (distinct same xs) → distinct same (cond b (x ∷ filter p xs) (filter p xs)) ≡ cond b (x ∷ filter p (filter (λ y. not (same x y)) (distinct same xs))) (filter p (filter (λ y. not (same x y)) (distinct same xs)))
distinct_head same p r x xs true e h =
    ap (λ l. x ∷ l) (ap (filter (λ y. not (same x y))) h ∙ filter_swap (λ y. not (same x y)) p (distinct same xs))
distinct_head same p r x xs false e h =
    h ∙ sym (filter_narrower p (λ y. not (same x y)) (λ y t. is_not (p y) (p x) (same x y) (r x y) e t) (distinct same xs))

-- of the items that pass a test
pub distinct-filter : {A : Type 0} (same : A → A → Bool) → (p : A → Bool) → Respects same p → (xs : List A) → distinct same (filter p xs) ≡ filter p (distinct same xs)
distinct-filter same p r [] = refl
distinct-filter same p r (x ∷ xs) = distinct_head same p r x xs (p x) refl (distinct-filter same p r xs)

others_respect : {A : Type 0} {same : A → A → Bool} → IsSameness same → (x : A) → Respects same (λ y. not (same x y))
others_respect {same = same} s x a b e = ap not (s.symm x a ∙ s.congr a b x e ∙ s.symm b x)

-- each item once, of items that are there once
pub distinct_again : {A : Type 0} {same : A → A → Bool} → IsSameness same → (xs : List A) → distinct same (distinct same xs) ≡ distinct same xs
distinct_again s [] = refl
distinct_again {same = same} s (x ∷ xs) =
    ap (λ l. x ∷ l)
    (ap (filter (λ y. not (same x y))) (distinct-filter same (λ y. not (same x y)) (others_respect s x) (distinct same xs) ∙ ap (filter (λ y. not (same x y))) (distinct_again s xs))
    ∙ filter_narrower (λ y. not (same x y)) (λ y. not (same x y)) (λ y t. t) (distinct same xs))

also_not : (a b c : Bool) → a ≡ c → not b && not a ≡ not (c || b)
also_not true true true e = refl
also_not true true false e = absurd (cc)
also_not true false true e = refl
also_not true false false e = absurd (cc)
also_not false true true e = absurd (cc)
also_not false true false e = refl
also_not false false true e = absurd (cc)
also_not false false false e = refl

-- the items of two lists: those of the first, and the new ones of the second
pub distinct-append : {A : Type 0} {same : A → A → Bool} → IsSameness same → (xs ys : List A) → distinct same (xs ++ ys) ≡ distinct same xs ++ filter (is_new same xs) (distinct same ys)
distinct-append {same = same} s [] ys = sym (all_stay (distinct same ys))
  where
    all_stay : {A : Type 0} (zs : List A) → filter (λ z. true) zs ≡ zs
    all_stay [] = refl
    all_stay (z ∷ zs) = ap (λ l. z ∷ l) (all_stay zs)
distinct-append {same = same} s (x ∷ xs) ys =
    ap (λ l. x ∷ l)
    (ap (filter (λ y. not (same x y))) (distinct-append s xs ys)
    ∙ filter-append (λ y. not (same x y)) (distinct same xs) (filter (is_new same xs) (distinct same ys))
    ∙ ap (λ l. filter (λ y. not (same x y)) (distinct same xs) ++ l)
    (filter_twice (λ y. not (same x y)) (is_new same xs) (distinct same ys)
    ∙ filter_alike (λ y. is_new same xs y && not (same x y)) (is_new same (x ∷ xs)) (λ y. also_not (same x y) (list_any (same y) xs) (same y x) (s.symm x y)) (distinct same ys)))

any_head : (q p a b : Bool) → (q ≡ true → p ≡ true) → a ≡ b → (c : Bool) → c ≡ a → cond p (q || c) c ≡ q || b
any_head true true a b h e c i = refl
any_head true false a b h e c i = absurd (let w = h refl in cc)
any_head false true a b h e c i = i ∙ e
any_head false false a b h e c i = i ∙ e

any_cond : {A : Type 0} (q : A → Bool) (b : Bool) (x : A) (xs : List A) → list_any q (cond b (x ∷ xs) xs) ≡ cond b (q x || list_any q xs) (list_any q xs)
any_cond q true x xs = refl
any_cond q false x xs = refl

any_filtered : {A : Type 0} (q p : A → Bool) → ((x : A) → q x ≡ true → p x ≡ true) → (xs : List A) → list_any q (filter p xs) ≡ list_any q xs
any_filtered q p h [] = refl
any_filtered q p h (x ∷ xs) = any_cond q (p x) x (filter p xs) ∙ any_head (q x) (p x) (list_any q (filter p xs)) (list_any q xs) (h x) (any_filtered q p h xs) (list_any q (filter p xs)) refl

any_rest : {A : Type 0} (same : A → A → Bool) (q : A → Bool) → Respects same q → (x : A) (xs : List A) (b : Bool) → q x ≡ b → list_any q (distinct same xs) ≡ list_any q xs
    → b || list_any q (filter (λ y. not (same x y)) (distinct same xs)) ≡ b || list_any q xs
any_rest same q r x xs true e h = refl
any_rest same q r x xs false e h = any_filtered q (λ y. not (same x y)) (λ y t. is_not (q y) (q x) (same x y) (r x y) e t) (distinct same xs) ∙ h

-- a test that finds an item finds it among the items that are there once
pub any-distinct : {A : Type 0} (same : A → A → Bool) (q : A → Bool) → Respects same q → (xs : List A) → list_any q (distinct same xs) ≡ list_any q xs
any-distinct same q r [] = refl
any-distinct same q r (x ∷ xs) = any_rest same q r x xs (q x) refl (any-distinct same q r xs)

pub sames_respect : {A : Type 0} {same : A → A → Bool} → IsSameness same → (y : A) → Respects same (same y)
sames_respect s y a b e = s.symm y a ∙ s.congr a b y e ∙ s.symm b y

-- each item once of two lists, by what is there once in each
pub distinct_merged : {A : Type 0} {same : A → A → Bool} → IsSameness same → (xs ys : List A) → distinct same (distinct same xs ++ distinct same ys) ≡ distinct same (xs ++ ys)
distinct_merged {same = same} s xs ys =
    distinct-append s (distinct same xs) (distinct same ys)
    ∙ ap (λ l. l ++ filter (is_new same (distinct same xs)) (distinct same (distinct same ys))) (distinct_again s xs)
    ∙ ap (λ l. distinct same xs ++ filter (is_new same (distinct same xs)) l) (distinct_again s ys)
    ∙ ap (λ l. distinct same xs ++ l) (filter_alike (is_new same (distinct same xs)) (is_new same xs) (λ y. ap not (any-distinct same (same y) (sames_respect s y) xs)) (distinct same ys))
    ∙ sym (distinct-append s xs ys)
