-- Lists that grow item by item.
use Rattle.std.proofs.Common.{◌≡◌, ◌∙◌, ℕ, zero, suc, ◌+◌, ◌<◌, List, [], ◌∷◌, ◌++◌, length, get_or, drop, drop-cons, sym, ap, subst, arith}
use Rattle.std.proofs.lemmas.List.{get_or_read}

-- what holds of each item, and of one more
pub each_pushed : {A : Type 0} (P : ℕ → A → Type 0) (items : List A) (new : A) → ((i : ℕ) (one : A) → i < length items → one ≡ get_or items i one → P i one) → P (length items) new
    → (i : ℕ) (one : A) → i < length items + 1 → one ≡ get_or (items ++ new ∷ []) i one → P i one
each_pushed P [] new h last zero one lt e = subst (P 0) (sym e) last
each_pushed P [] new h last (suc i) one lt e = absurd (omega (arith, lt))
each_pushed P (x ∷ items) new h last zero one lt e = h 0 one (omega arith) e
each_pushed P (x ∷ items) new h last (suc i) one lt e = each_pushed (λ j. P (suc j)) items new (λ j two below f. h (suc j) two (omega (arith, below)) f) last i one (omega (arith, lt)) e

pub each_more : {A : Type 0} (P : ℕ → A → Type 0) (items grown : List A) (new : A) (place : ℕ) → grown ≡ items ++ new ∷ [] → length items ≡ place → ((i : ℕ) (one : A) → i < place → one ≡ get_or items i one → P i one) → P place new
    → (i : ℕ) (one : A) → i < place + 1 → one ≡ get_or grown i one → P i one
each_more P items grown new place g many h last i one lt e =
    each_pushed P items new (λ j two below f. h j two (omega (arith, below, many)) f) (subst (λ n. P n new) (sym many) last) i one (omega (arith, lt, many)) (e ∙ ap (λ l. get_or l i one) g)

-- an item that is read twice
pub same_item : {A : Type 0} (xs : List A) (i : ℕ) (x y : A) → i < length xs → x ≡ get_or xs i x → y ≡ get_or xs i y → x ≡ y
same_item xs i x y lt is at = get_or_read xs i x lt is y ∙ sym at

abbrev head_or : {A : Type 0} → A → List A → A
head_or d [] = d
head_or d (x ∷ xs) = x

abbrev rest_of : {A : Type 0} → List A → List A
rest_of [] = []
rest_of (x ∷ xs) = xs

-- the first of those that are left
pub first_left : {A : Type 0} (xs left : List A) (i : ℕ) (x : A) → i < length xs → x ∷ left ≡ drop i xs → x ≡ get_or xs i x
first_left xs left i x lt e = ap (head_or x) (e ∙ drop-cons xs i x lt)

pub rest_left : {A : Type 0} (xs left : List A) (i : ℕ) (x : A) → i < length xs → x ∷ left ≡ drop i xs → left ≡ drop (i + 1) xs
rest_left xs left i x lt e =
    let next : suc i ≡ i + 1 = omega arith in
    ap rest_of (e ∙ drop-cons xs i x lt) ∙ ap (λ n. drop n xs) next
