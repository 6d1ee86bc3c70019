-- Rows that pass a test: which are below another, and which are the first so many.
use Rattle.std.proofs.Common.{◌≡◌, ◌∙◌, ℕ, zero, suc, ◌+◌, ◌-◌, ◌<◌, ◌≤◌, List, [], ◌∷◌, ◌++◌, Bool, true, false, ◌&&◌, ◌||◌, cond, length, take, get_or, nat_lt, nat_eq, refl, sym, ap, ap₂, subst, arith, inl, inr}
use Rattle.std.specs.List.{All, filter, list_any, range_with_len}
use Rattle.std.proofs.lemmas.Bool.{cases_lt, lt-ltb, le-ltb, eq-eqb, ne_eqb}
use Rattle.std.proofs.lemmas.List.{length-append, get_or_append_left, get_or-append_right, take_at}
use Rattle.std.proofs.lemmas.List.Elements.{filter-append, All-filter}
use Rattle.std.proofs.lemmas.List.FromFn.{get_or-range_with_len, length-range_with_len}
use Rattle.hash_chains.specs.First.{rows_where}
use Rattle.set_places.specs.Taken.{times}

-- two tests of numbers that say the same
at_most : (c d a b : ℕ) → (c < d → a < b) → b ≤ a → d ≤ c
at_most c d a b back h =
    elim (cases_lt c d) [
      | inl k ↦ absurd (let l : a < b = back k in omega arith)
      | inr k ↦ k
    ]

pub same_test : (a b c d : ℕ) → (a < b → c < d) → (c < d → a < b) → nat_lt a b ≡ nat_lt c d
same_test a b c d to back =
    elim (cases_lt a b) [
      | inl h ↦ lt-ltb a b h ∙ sym (lt-ltb c d (to h))
      | inr h ↦ le-ltb a b h ∙ sym (le-ltb c d (at_most c d a b back h))
    ]

-- rows from one on, in two parts
pub range-split : (m a n k b : ℕ) → k ≡ m + n → b ≡ a + m → range_with_len a k ≡ range_with_len a m ++ range_with_len b n
range-split zero a n k b e f =
    let low : a ≡ b = omega arith in
    let long : k ≡ n = omega arith in
    ap₂ range_with_len low long
range-split (suc m) a n zero b e f = absurd (omega arith)
range-split (suc m) a n (suc k) b e f = ap (λ rest. a ∷ rest) (range-split m (a + 1) n k b (omega arith) (omega arith))

in_range : (a n : ℕ) → All (λ k. (a ≤ k) × (k < a + n)) (range_with_len a n)
in_range a n k d below =
    let i : k < n = omega (arith, length-range_with_len a n) in
    (omega (arith, get_or-range_with_len a n k d i), omega (arith, get_or-range_with_len a n k d i))

module _ (q : ℕ → Bool) where
  -- the rows that pass, in two parts
  pub where-split : (end count : ℕ) → end ≤ count → rows_where q count ≡ rows_where q end ++ filter q (range_with_len end (count - end))
  where-split end count h =
      ap (filter q) (range-split end 0 (count - end) count end (omega arith) (omega arith))
      ∙ filter-append q (range_with_len 0 end) (range_with_len end (count - end))

  abbrev pub upto : ℕ → ℕ
  upto end = length (rows_where q end)

  pub times-zero : (end : ℕ) → times q 0 end ≡ upto end
  times-zero end = ap (λ n. length (filter q (range_with_len 0 n))) (let e : end - 0 ≡ end = omega arith in e)

  -- how many pass to a row, and from it to another
  pub times-split : (from end : ℕ) → from ≤ end → upto end ≡ upto from + times q from end
  times-split from end h = ap length (where-split from end h) ∙ length-append (rows_where q from) (filter q (range_with_len from (end - from)))

  -- one of the first is below, and one behind them isn't
  pub below_end : (end count i d : ℕ) → end ≤ count → i < upto end → get_or (rows_where q count) i d < end
  below_end end count i d h below =
      let all = All-filter q (λ k. (0 ≤ k) × (k < 0 + end)) (range_with_len 0 end) (in_range 0 end) i d below in
      let same : get_or (rows_where q count) i d ≡ get_or (rows_where q end) i d = ap (λ rows. get_or rows i d) (where-split end count h) ∙ get_or_append_left (rows_where q end) (filter q (range_with_len end (count - end))) d i below in
      omega (arith, all.1, same)

  pub from_end : (end count i d : ℕ) → end ≤ count → upto end ≤ i → i < upto count → end ≤ get_or (rows_where q count) i d
  from_end end count i d h low below =
      let rest = filter q (range_with_len end (count - end)) in
      let total : upto count ≡ upto end + length rest = ap length (where-split end count h) ∙ length-append (rows_where q end) rest in
      let all = All-filter q (λ k. (end ≤ k) × (k < end + (count - end))) (range_with_len end (count - end)) (in_range end (count - end)) (i - upto end) d (omega arith) in
      let same : get_or (rows_where q count) i d ≡ get_or rest (i - upto end) d = ap (λ rows. get_or rows i d) (where-split end count h) ∙ get_or-append_right (rows_where q end) rest (upto end) i d refl low in
      omega (arith, all.0, same)

  -- the first so many are those below a row
  pub take-where : (end count : ℕ) → end ≤ count → take (upto end) (rows_where q count) ≡ rows_where q end
  take-where end count h = ap (take (upto end)) (where-split end count h) ∙ take_at (rows_where q end) (filter q (range_with_len end (count - end))) (upto end) refl

  -- a row is one of the first so many where it passes and fewer pass before it
  none_head : (b : Bool) (m a p : ℕ) (rest : List ℕ) → (a ≡ p → ⊥) → ((k : ℕ) → list_any (λ x. nat_eq x p) (take k rest) ≡ false) → list_any (λ x. nat_eq x p) (take m (cond b (a ∷ rest) rest)) ≡ false
  none_head true zero a p rest h f = refl
  none_head true (suc m) a p rest h f = ap (λ t. t || list_any (λ x. nat_eq x p) (take m rest)) (ne_eqb a p h) ∙ f m
  none_head false m a p rest h f = f m

  none_of_none : (m p : ℕ) → list_any (λ x. nat_eq x p) (take m []) ≡ false
  none_of_none zero p = refl
  none_of_none (suc m) p = refl

  none_before : (n m a p : ℕ) → p < a → list_any (λ x. nat_eq x p) (take m (filter q (range_with_len a n))) ≡ false
  none_before zero m a p h = none_of_none m p
  none_before (suc n) m a p h = none_head (q a) m a p (filter q (range_with_len (a + 1) n)) (λ e. omega arith) (λ k. none_before n k (a + 1) p (omega arith))

  never : (b : Bool) (n : ℕ) → false ≡ b && nat_lt n 0
  never true n = sym (le-ltb n 0 (omega arith))
  never false n = refl

  here : (b : Bool) (m a : ℕ) (rest : List ℕ) → ((k : ℕ) → list_any (λ x. nat_eq x a) (take k rest) ≡ false) → list_any (λ x. nat_eq x a) (take m (cond b (a ∷ rest) rest)) ≡ b && nat_lt 0 m
  here true zero a rest f = sym (le-ltb 0 0 (omega arith))
  here true (suc m) a rest f = ap (λ t. t || list_any (λ x. nat_eq x a) (take m rest)) (eq-eqb a a refl) ∙ sym (lt-ltb 0 (suc m) (omega arith))
  here false m a rest f = f m

  further : (b passes : Bool) (m a p : ℕ) (rest before : List ℕ) → (a ≡ p → ⊥) → ((k : ℕ) → list_any (λ x. nat_eq x p) (take k rest) ≡ passes && nat_lt (length before) k)
      → list_any (λ x. nat_eq x p) (take m (cond b (a ∷ rest) rest)) ≡ passes && nat_lt (length (cond b (a ∷ before) before)) m
  further true passes zero a p rest before h f = never passes (length (a ∷ before))
  further true passes (suc m) a p rest before h f =
      ap (λ t. t || list_any (λ x. nat_eq x p) (take m rest)) (ne_eqb a p h) ∙ f m
      ∙ ap (λ t. passes && t) (same_test (length before) m (suc (length before)) (suc m) (λ h. omega arith) (λ h. omega arith))
  further false passes m a p rest before h f = f m

  pub among : (n j m a p : ℕ) → p ≡ a + j → j < n → list_any (λ x. nat_eq x p) (take m (filter q (range_with_len a n))) ≡ q p && nat_lt (length (filter q (range_with_len a j))) m
  among zero j m a p e h = absurd (omega arith)
  among (suc n) zero m a p e h =
      let same : p ≡ a = omega arith in
      subst (λ r. list_any (λ x. nat_eq x r) (take m (cond (q a) (a ∷ filter q (range_with_len (a + 1) n)) (filter q (range_with_len (a + 1) n)))) ≡ q r && nat_lt 0 m) (sym same)
      (here (q a) m a (filter q (range_with_len (a + 1) n)) (λ k. none_before n k (a + 1) a (omega arith)))
  among (suc n) (suc j) m a p e h =
      further (q a) (q p) m a p (filter q (range_with_len (a + 1) n)) (filter q (range_with_len (a + 1) j)) (λ f. omega arith) (λ k. among n j k (a + 1) p (omega arith) (omega arith))

-- tests that agree
pub filter-agree_in : (p q : ℕ → Bool) (n a : ℕ) → ((k : ℕ) → a ≤ k → k < a + n → p k ≡ q k) → filter p (range_with_len a n) ≡ filter q (range_with_len a n)
filter-agree_in p q zero a h = refl
filter-agree_in p q (suc n) a h =
    let rest = filter-agree_in p q n (a + 1) (λ k low high. h k (omega arith) (omega arith)) in
    ap (λ b. cond b (a ∷ filter p (range_with_len (a + 1) n)) (filter p (range_with_len (a + 1) n))) (h a (omega arith) (omega arith))
    ∙ ap (λ l. cond (q a) (a ∷ l) l) rest
