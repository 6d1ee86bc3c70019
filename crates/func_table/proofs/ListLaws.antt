-- Laws of lists that std has not.
use Rattle.std.proofs.Common.{◌≡◌, ◌≤◌, ◌+◌, ◌∙◌, refl, ap, sym, Bool, true, false, cond, List, [], ◌∷◌, ◌&&◌, ◌||◌, ◌⊎◌, inl, inr, map, length, Option, Some, None, zero, suc, arith}
use Rattle.std.specs.List.{find, list_any, list_all, zip, Contains, count_by}
use Rattle.std.specs.Option.{option_map}
use Rattle.std.specs.Cmp.Lexicographic.{pointwise}
use Rattle.std.proofs.lemmas.List.Elements.{Contains-append_right}
use Rattle.std.proofs.lemmas.List.Sums.{sum_by-cons}

pub option_map-twice : {X Y Z : Type 0} (f : X → Y) (g : Y → Z) (o : Option X) → option_map g (option_map f o) ≡ option_map (λ x. g (f x)) o
option_map-twice f g None = refl
option_map-twice f g (Some x) = refl

pub find-map : {X Y : Type 0} (p : Y → Bool) (f : X → Y) (xs : List X) → find p (map f xs) ≡ option_map f (find (λ x. p (f x)) xs)
find-map p f [] = refl
find-map p f (x ∷ xs) = grind (arith, find-map p f xs)

pub list_any-map : {X Y : Type 0} (p : Y → Bool) (f : X → Y) (xs : List X) → list_any p (map f xs) ≡ list_any (λ x. p (f x)) xs
list_any-map p f [] = refl
list_any-map p f (x ∷ xs) = ap (λ b. p (f x) || b) (list_any-map p f xs)

-- a test of the pairs of two lists of one length
pub list_all-zip : {X Y Z : Type 0} (p : Y → Z → Bool) (f : X → Y) (xs : List X) (ys : List Z) → length xs ≡ length ys → list_all (λ (pair : X × Z). p (f pair.0) pair.1) (zip xs ys) ≡ pointwise p (map f xs) ys
list_all-zip p f [] [] same = refl
list_all-zip p f [] (y ∷ ys) same = grind arith
list_all-zip p f (x ∷ xs) [] same = grind arith
list_all-zip p f (x ∷ xs) (y ∷ ys) same = ap (λ b. p (f x) y && b) (list_all-zip p f xs ys (omega arith))

-- what is found among things in memory, as they are seen
pub found_seen : {R X Y : Type 0} (now : R → X) (see : X → Y) (test : Y → Bool) (xs : List X) (ys : List Y) (r : Option R) → map see xs ≡ ys → option_map now r ≡ find (λ x. test (see x)) xs → option_map (λ x. see (now x)) r ≡ find test ys
found_seen now see test xs ys r all found = sym (option_map-twice now see r) ∙ ap (option_map see) found ∙ sym (find-map test see xs) ∙ ap (find test) all

-- the first, or what is found in the rest
head_or_rest : {Y Z : Type 0} (part : Y → Z) (y : Y) (ys : List Y) (z : Z) (b : Bool) (rest : Option Y) → (option_map part rest ≡ Some z → Contains (map part ys) z) → option_map part (cond b (Some y) rest) ≡ Some z → Contains (map part (y ∷ ys)) z
head_or_rest part y ys z true rest later found = (0, omega arith, cc)
head_or_rest part y ys z false rest later found = Contains-append_right (part y ∷ []) (map part ys) z (later found)

-- what is found is there
pub found_Contains : {Y Z : Type 0} (test : Y → Bool) (part : Y → Z) (ys : List Y) (z : Z) → option_map part (find test ys) ≡ Some z → Contains (map part ys) z
found_Contains test part [] z found = cc
found_Contains test part (y ∷ ys) z found = head_or_rest part y ys z (test y) (find test ys) (found_Contains test part ys z) found

pub count_by-cons : {X : Type 0} (p : X → Bool) (x : X) (xs : List X) → count_by p (x ∷ xs) ≡ cond (p x) 1 0 + count_by p xs
count_by-cons p x xs = sum_by-cons (λ y. cond (p y) 1 0) x xs

-- an element is the first, or one of the rest
first_or_later : {X : Type 0} (y : X) (ys : List X) (x : X) → Contains (y ∷ ys) x → (y ≡ x) ⊎ Contains ys x
first_or_later y ys x (zero, below, same) = inl same
first_or_later y ys x (suc k, below, same) = inr (k, omega arith, same)

-- of a list with an element that passes the test, one or more pass
one_or_more : {X : Type 0} (p : X → Bool) (xs : List X) (x : X) → Contains xs x → p x ≡ true → 1 ≤ count_by p xs
one_or_more p [] x (k, below, same) passes = absurd (omega arith)
one_or_more p (y ∷ ys) x here passes = rw (count_by-cons p y ys) (elim (first_or_later y ys x here) [ inl same ↦ rw (same, passes) (omega arith) | inr later ↦ let more : 1 ≤ count_by p ys = one_or_more p ys x later passes in omega arith ])

-- the first is found where it passes the test, and else what is found in the rest
first_or_found : {X : Type 0} (p : X → Bool) (y : X) (ys : List X) (x : X) (b : Bool) → p y ≡ b → cond b 1 0 + count_by p ys ≤ 1 → (y ≡ x) ⊎ Contains ys x → p x ≡ true → (count_by p ys ≤ 1 → Contains ys x → find p ys ≡ Some x) → cond b (Some y) (find p ys) ≡ Some x
first_or_found p y ys x true test few (inl same) passes rest = ap Some same
first_or_found p y ys x true test few (inr later) passes rest = let more : 1 ≤ count_by p ys = one_or_more p ys x later passes in absurd (omega arith)
first_or_found p y ys x false test few (inl same) passes rest = cc
first_or_found p y ys x false test few (inr later) passes rest = rest (omega arith) later

-- where at most one passes the test, it is found
pub only_found : {X : Type 0} (p : X → Bool) (xs : List X) (x : X) → count_by p xs ≤ 1 → Contains xs x → p x ≡ true → find p xs ≡ Some x
only_found p [] x few (k, below, same) passes = absurd (omega arith)
only_found p (y ∷ ys) x few here passes = first_or_found p y ys x (p y) refl (rw count_by-cons at few) (first_or_later y ys x here) passes (λ few_later later. only_found p ys x few_later later passes)
