-- Rows of a batch: the first so many, or those of a list.
use Rattle.std.proofs.Common.{◌≡◌, ◌∙◌, ℕ, suc, ◌+◌, ◌<◌, ◌≤◌, List, [], ◌∷◌, Bool, true, false, ◌&&◌, nat_le, All, length, take, refl, sym, ap, ap₂, arith}
use Rattle.std.specs.List.{range_with_len}
use Rattle.std.proofs.lemmas.Bool.{leb-true}
use Rattle.std.proofs.lemmas.List.{map-id}
use Rattle.std.proofs.lemmas.List.FromFn.{take-map-range_with_len, length-range_with_len}
use Rattle.kernels.specs.Rising.{rises_from, rises, seen}

pub seen-all : (b : Bool) (count : ℕ) (listed rows : List ℕ) → seen b count listed ≡ rows → b ≡ true → rows ≡ range_with_len 0 count
seen-all b count listed rows is all = sym is ∙ ap (λ b. seen b count listed) all

pub length-all : (count : ℕ) (rows : List ℕ) → rows ≡ range_with_len 0 count → length rows ≡ count
length-all count rows is = ap length is ∙ length-range_with_len 0 count

pub take-range : (count n : ℕ) → n ≤ count → take n (range_with_len 0 count) ≡ range_with_len 0 n
take-range count n most = ap (take n) (sym (map-id (range_with_len 0 count))) ∙ take-map-range_with_len (λ i. i) 0 count n most ∙ map-id (range_with_len 0 n)

and_left : (a b : Bool) → (a && b) ≡ true → a ≡ true
and_left true b e = refl
and_left false b e = e

and_right : (a b : Bool) → (a && b) ≡ true → b ≡ true
and_right true b e = e
and_right false b e = absurd (cc)

rest_below : (n x : ℕ) (xs : List ℕ) → All (λ row. row < n) (x ∷ xs) → All (λ row. row < n) xs
rest_below n x xs below = λ k d lt. below (suc k) d (omega arith)

-- rows that rise below an end are no more than there are
room : (low n : ℕ) (xs : List ℕ) → rises_from low xs ≡ true → All (λ row. row < n) xs → low ≤ n → length xs + low ≤ n
room low n [] up below most = omega arith
room low n (x ∷ xs) up below most =
    let first : low ≤ x = leb-true low x (and_left (nat_le low x) (rises_from (x + 1) xs) up) in
    let rest = room (x + 1) n xs (and_right (nat_le low x) (rises_from (x + 1) xs) up) (rest_below n x xs below) (omega (arith, below 0 0 (omega arith))) in
    omega arith

full : (low n : ℕ) (xs : List ℕ) → rises_from low xs ≡ true → All (λ row. row < n) xs → length xs + low ≡ n → xs ≡ range_with_len low (length xs)
full low n [] up below all = refl
full low n (x ∷ xs) up below all =
    let first : low ≤ x = leb-true low x (and_left (nat_le low x) (rises_from (x + 1) xs) up) in
    let later = and_right (nat_le low x) (rises_from (x + 1) xs) up in
    let most = room (x + 1) n xs later (rest_below n x xs below) (omega (arith, below 0 0 (omega arith))) in
    let e : x ≡ low = omega arith in
    let rest = full (x + 1) n xs later (rest_below n x xs below) (omega arith) in
    ap₂ (λ (y : ℕ) (ys : List ℕ). y ∷ ys) e (rest ∙ ap (λ y. range_with_len (y + 1) (length xs)) e)

-- as many rows as there are, in order, are all of them
pub all-rows : (n : ℕ) (rows : List ℕ) → rises rows ≡ true → All (λ row. row < n) rows → length rows ≡ n → range_with_len 0 n ≡ rows
all-rows n rows up below long = sym (full 0 n rows up below (omega arith) ∙ ap (range_with_len 0) long)
