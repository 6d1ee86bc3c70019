-- Places that are marked in a list of truth values.
use Rattle.std.proofs.Common.{◌≡◌, ◌∙◌, ap, refl, ℕ, zero, suc, ◌+◌, ◌<◌, ◌≤◌, Bool, true, false, ◌&&◌, ◌||◌, ◌==◌, not, List, [], ◌∷◌, length, get_or, nat_lt, zero-add, arith}
use Rattle.std.proofs.Math.ListN.{set, replicate}
use Rattle.std.proofs.lemmas.Bool.{eqb-true, eq-eqb}
use Rattle.std.proofs.lemmas.List.{get_or-set_other, length-set, length-replicate}
use Rattle.std.proofs.lemmas.Grind.{get_or-set_at}
use Rattle.std.proofs.lemmas.List.Folds.{list_all-append, list_all_at}
use Rattle.std.proofs.lemmas.List.FromFn.{get_or-range_with_len, length-range_with_len}
use Rattle.plan_rules.proofs.ListLaws.{range_with_len-more}
use borrow.Author.Tests.{ltb-true}
use Rattle.std.specs.List.{list_any, list_all, range_with_len}
use Rattle.plan_verdict.specs.Aggregates.{are_places}

-- whether the places are of these marks, none is marked, and none stands twice
abbrev pub are_fresh : List Bool → List ℕ → Bool
are_fresh seen [] = true
are_fresh seen (place ∷ places) = nat_lt place (length seen) && not (get_or seen place false) && are_fresh (set seen place true) places

list_any-or : {X : Type 0} (p q : X → Bool) (xs : List X) → list_any (λ x. p x || q x) xs ≡ (list_any p xs || list_any q xs)
list_any-or p q [] = refl
list_any-or p q (x ∷ xs) = ap (λ b. (p x || q x) || b) (list_any-or p q xs) ∙ regroup (p x) (q x) (list_any p xs) (list_any q xs)
  where
    regroup : (a b c d : Bool) → ((a || b) || (c || d)) ≡ ((a || c) || (b || d))
    regroup true b c d = refl
    regroup false true true d = refl
    regroup false true false d = refl
    regroup false false c d = refl

list_any-same : {X : Type 0} (p q : X → Bool) (xs : List X) → ((x : X) → p x ≡ q x) → list_any p xs ≡ list_any q xs
list_any-same p q [] same = refl
list_any-same p q (x ∷ xs) same = ap (λ b. b || list_any p xs) (same x) ∙ ap (λ b. q x || b) (list_any-same p q xs same)

set-marked : (seen : List Bool) (place q : ℕ) → place < length seen → get_or (set seen place true) q false ≡ (q == place || get_or seen q false)
set-marked seen place q below = by (q == place) refl
  where
    by : (b : Bool) → (q == place) ≡ b → get_or (set seen place true) q false ≡ (b || get_or seen q false)
    by true same = get_or-set_at seen place q true false (eqb-true q place same) below
    by false other = get_or-set_other seen place q true false (λ same. let is : (q == place) ≡ true = eq-eqb q place same in absurd (cc))

-- one place, and then the others
fresh-cons : (below marked : Bool) (twice rest others : Bool) → (below && not marked && (rest && not (twice || others))) ≡ ((below && not twice && rest) && not (marked || others))
fresh-cons false marked twice rest others = refl
fresh-cons true true false rest others = grind arith
fresh-cons true true true rest others = refl
fresh-cons true false true rest others = grind arith
fresh-cons true false false rest others = refl

pub are_fresh-places : (seen : List Bool) (places : List ℕ) → are_fresh seen places ≡ (are_places (length seen) places && not (list_any (λ place. get_or seen place false) places))
are_fresh-places seen [] = refl
are_fresh-places seen (place ∷ places) =
    step (nat_lt place (length seen)) refl (are_fresh-places (set seen place true) places)
    ∙ fresh-cons (nat_lt place (length seen)) (get_or seen place false) (list_any (λ q. q == place) places) (are_places (length seen) places) (list_any (λ q. get_or seen q false) places)
  where
    others : place < length seen → list_any (λ q. get_or (set seen place true) q false) places ≡ (list_any (λ q. q == place) places || list_any (λ q. get_or seen q false) places)
    others below =
        list_any-same (λ q. get_or (set seen place true) q false) (λ q. q == place || get_or seen q false) places (λ q. set-marked seen place q below)
        ∙ list_any-or (λ q. q == place) (λ q. get_or seen q false) places

    step : (b : Bool) → nat_lt place (length seen) ≡ b
        → are_fresh (set seen place true) places ≡ (are_places (length (set seen place true)) places && not (list_any (λ q. get_or (set seen place true) q false) places))
        → (b && not (get_or seen place false) && are_fresh (set seen place true) places)
        ≡ (b && not (get_or seen place false) && (are_places (length seen) places && not (list_any (λ q. q == place) places || list_any (λ q. get_or seen q false) places)))
    step false past later = refl
    step true below later =
        ap (λ rest. true && not (get_or seen place false) && rest)
        (later
        ∙ ap (λ count. are_places count places && not (list_any (λ q. get_or (set seen place true) q false) places)) (length-set seen place true)
        ∙ ap (λ some. are_places (length seen) places && not some) (others (ltb-true place (length seen) below)))

unmarked : (count q : ℕ) → get_or (replicate count false) q false ≡ false
unmarked zero q = refl
unmarked (suc count) zero = refl
unmarked (suc count) (suc q) = unmarked count q

list_any-never : {X : Type 0} (xs : List X) → list_any (λ x. false) xs ≡ false
list_any-never [] = refl
list_any-never (x ∷ xs) = list_any-never xs

and-true : (b : Bool) → (b && not false) ≡ b
and-true true = refl
and-true false = refl

-- no marks
pub are_fresh-none : (count : ℕ) (places : List ℕ) → are_fresh (replicate count false) places ≡ are_places count places
are_fresh-none count places =
    are_fresh-places (replicate count false) places
    ∙ ap (λ n. are_places n places && not (list_any (λ q. get_or (replicate count false) q false) places)) (length-replicate count false)
    ∙ ap (λ some. are_places count places && not some) (list_any-same (λ q. get_or (replicate count false) q false) (λ q. false) places (unmarked count) ∙ list_any-never places)
    ∙ and-true (are_places count places)

-- a test of each number below n
list_all-range : (p q : ℕ → Bool) (from n : ℕ) → ((k : ℕ) → from ≤ k → k < from + n → p k ≡ q k) → list_all p (range_with_len from n) ≡ list_all q (range_with_len from n)
list_all-range p q from zero same = refl
list_all-range p q from (suc n) same =
    ap (λ b. b && list_all p (range_with_len (from + 1) n)) (same from (omega arith) (omega arith))
    ∙ ap (λ b. q from && b) (list_all-range p q (from + 1) n (λ k above below. same k (omega arith) (omega arith)))

pub list_all-below : (p q : ℕ → Bool) (n : ℕ) → ((k : ℕ) → k < n → p k ≡ q k) → list_all p (range_with_len 0 n) ≡ list_all q (range_with_len 0 n)
list_all-below p q n same = list_all-range p q 0 n (λ k above below. same k (omega arith))

-- a test that each number below i passes, at one number more and where one fails
pub all_below-more : (p : ℕ → Bool) (i : ℕ) → list_all p (range_with_len 0 i) ≡ true → p i ≡ true → list_all p (range_with_len 0 (i + 1)) ≡ true
all_below-more p i before here =
    ap (list_all p) (range_with_len-more i) ∙ list_all-append p (range_with_len 0 i) (i ∷ [])
    ∙ ap (λ b. b && (p i && true)) before ∙ ap (λ b. true && (b && true)) here

pub all_below-fails : (p : ℕ → Bool) (n i : ℕ) → i < n → p i ≡ false → list_all p (range_with_len 0 n) ≡ false
all_below-fails p n i below here =
    let at : get_or (range_with_len 0 n) i 0 ≡ i = get_or-range_with_len 0 n i 0 below ∙ zero-add i in
    list_all_at p (range_with_len 0 n) i 0 (rw (length-range_with_len 0 n) below) (ap p at ∙ here)
