-- Laws of tests over lists that std has not.
use Rattle.std.proofs.Common.{◌≡◌, ◌∙◌, ℕ, zero, suc, ◌+◌, ◌<◌, ◌≤◌, ◌++◌, refl, sym, ap, take, get_or, true, false, Bool, List, [], ◌∷◌, ◌&&◌, ◌||◌, map, length, arith}
use Rattle.std.specs.List.{list_any, list_all, zip, range_with_len}
use Rattle.std.specs.Cmp.Lexicographic.{pointwise}
use Rattle.std.specs.Cmp.Derive.{both_true}
use Rattle.std.proofs.lemmas.Bool.{and_parts}
use Rattle.std.proofs.lemmas.List.{take_more, take_all}
use Rattle.std.proofs.Math.Bool.{and-false}

pub list_any-map : {X Y : Type 0} (p : Y → Bool) (f : X → Y) (xs : List X) → list_any p (map f xs) ≡ list_any (λ x. p (f x)) xs
list_any-map p f [] = refl
list_any-map p f (x ∷ xs) = ap (λ b. p (f x) || b) (list_any-map p f xs)

-- a test of the pairs of two lists of one length
pub list_all-zip : {X Y : Type 0} (p : X → Y → Bool) (xs : List X) (ys : List Y) → length xs ≡ length ys → list_all (λ (pair : X × Y). p pair.0 pair.1) (zip xs ys) ≡ pointwise p xs ys
list_all-zip p [] [] same = refl
list_all-zip p [] (y ∷ ys) same = grind arith
list_all-zip p (x ∷ xs) [] same = grind arith
list_all-zip p (x ∷ xs) (y ∷ ys) same = ap (λ b. p x y && b) (list_all-zip p xs ys (omega arith))

range_with_len-push : (from n : ℕ) → range_with_len from (suc n) ≡ range_with_len from n ++ (from + n) ∷ []
range_with_len-push from zero = ap (λ one. one ∷ []) (omega arith)
range_with_len-push from (suc n) =
    ap (λ rest. from ∷ rest) (range_with_len-push (from + 1) n)
    ∙ ap (λ last. from ∷ (range_with_len (from + 1) n ++ last ∷ [])) (omega arith)

-- one number more
pub range_with_len-more : (n : ℕ) → range_with_len 0 (n + 1) ≡ range_with_len 0 n ++ n ∷ []
range_with_len-more n =
    let next : n + 1 ≡ suc n = omega arith in
    let last : 0 + n ≡ n = omega arith in
    ap (range_with_len 0) next ∙ range_with_len-push 0 n ∙ ap (λ one. range_with_len 0 n ++ one ∷ []) last

-- one more pair
pointwise-push : {X Y : Type 0} (p : X → Y → Bool) (xs : List X) (ys : List Y) (x : X) (y : Y) → pointwise p xs ys ≡ true → p x y ≡ true → pointwise p (xs ++ x ∷ []) (ys ++ y ∷ []) ≡ true
pointwise-push p [] [] x y same here = ap (λ b. b && true) here
pointwise-push p [] (b ∷ ys) x y same here = absurd (cc)
pointwise-push p (a ∷ xs) [] x y same here = absurd (cc)
pointwise-push p (a ∷ xs) (b ∷ ys) x y same here =
    let parts = and_parts (p a b) (pointwise p xs ys) same in
    both_true parts.0 (pointwise-push p xs ys x y parts.1 here)

pub pointwise-more : {X Y : Type 0} (p : X → Y → Bool) (xs : List X) (ys : List Y) (i : ℕ) (x : X) (y : Y) → i < length xs → i < length ys → x ≡ get_or xs i x → y ≡ get_or ys i y → pointwise p (take i xs) (take i ys) ≡ true → p x y ≡ true → pointwise p (take (i + 1) xs) (take (i + 1) ys) ≡ true
pointwise-more p xs ys i x y below other_below here there same one =
    let first : take (i + 1) xs ≡ take i xs ++ x ∷ [] = take_more xs i x below ∙ ap (λ last. take i xs ++ last ∷ []) (sym here) in
    let second : take (i + 1) ys ≡ take i ys ++ y ∷ [] = take_more ys i y other_below ∙ ap (λ last. take i ys ++ last ∷ []) (sym there) in
    ap (λ front. pointwise p front (take (i + 1) ys)) first ∙ ap (pointwise p (take i xs ++ x ∷ [])) second
    ∙ pointwise-push p (take i xs) (take i ys) x y same one

-- one pair that fails
pub pointwise-fails : {X Y : Type 0} (p : X → Y → Bool) (xs : List X) (ys : List Y) (i : ℕ) (x : X) (y : Y) → i < length xs → x ≡ get_or xs i x → y ≡ get_or ys i y → p x y ≡ false → pointwise p xs ys ≡ false
pointwise-fails p [] ys i x y below here there one = absurd (omega arith)
pointwise-fails p (a ∷ xs) [] i x y below here there one = refl
pointwise-fails p (a ∷ xs) (b ∷ ys) zero x y below here there one =
    ap (λ c. p c b && pointwise p xs ys) (sym here) ∙ ap (λ c. p x c && pointwise p xs ys) (sym there) ∙ ap (λ c. c && pointwise p xs ys) one
pointwise-fails p (a ∷ xs) (b ∷ ys) (suc i) x y below here there one =
    ap (λ c. p a b && c) (pointwise-fails p xs ys i x y (omega arith) here there one) ∙ and-false (p a b)

-- all pairs
pub pointwise-end : {X Y : Type 0} (p : X → Y → Bool) (xs : List X) (ys : List Y) (i : ℕ) → length xs ≡ length ys → length xs ≤ i → pointwise p (take i xs) (take i ys) ≡ true → pointwise p xs ys ≡ true
pointwise-end p xs ys i long done same =
    ap (λ all. pointwise p all ys) (sym (take_all i xs done)) ∙ ap (pointwise p (take i xs)) (sym (take_all i ys (omega arith))) ∙ same

-- lists that aren't as long
pub pointwise-long : {X Y : Type 0} (p : X → Y → Bool) (xs : List X) (ys : List Y) → (length xs ≡ length ys → ⊥) → pointwise p xs ys ≡ false
pointwise-long p [] [] other = absurd (other refl)
pointwise-long p [] (y ∷ ys) other = refl
pointwise-long p (x ∷ xs) [] other = refl
pointwise-long p (x ∷ xs) (y ∷ ys) other = ap (λ c. p x y && c) (pointwise-long p xs ys (λ same. other (ap suc same))) ∙ and-false (p x y)

-- a test of what was made of the first list
pub pointwise-map_left : {X Y Z : Type 0} (p : Y → Z → Bool) (f : X → Y) (xs : List X) (ys : List Z) → pointwise p (map f xs) ys ≡ pointwise (λ x. p (f x)) xs ys
pointwise-map_left p f [] [] = refl
pointwise-map_left p f [] (y ∷ ys) = refl
pointwise-map_left p f (x ∷ xs) [] = refl
pointwise-map_left p f (x ∷ xs) (y ∷ ys) = ap (λ c. p (f x) y && c) (pointwise-map_left p f xs ys)
