-- Walks along lists, whose items are numbered one after the other.
use Rattle.std.proofs.Common.{◌≡◌, ◌∙◌, ℕ, ◌+◌, ◌<◌, List, [], ◌∷◌, ◌++◌, take, get_or, length, sym, ap, arith}
use Rattle.std.proofs.lemmas.List.{take_more}
use Rattle.std.proofs.Math.Seq.{take-length}

-- the first so many items are made, from a number on, and their nodes counted
pub record IsWalked {A B : Type 0} (from : ℕ → List A → List B) (total : List A → ℕ) (start : ℕ) (items : List A) (i : ℕ) (made : List B) (next : ℕ) : Type 0 where
  pub front : made ≡ from start (take i items)
  pub count : next ≡ start + total (take i items)

-- all are made
pub all_made : {A B : Type 0} {from : ℕ → List A → List B} {total : List A → ℕ} {start : ℕ} {items : List A} {i : ℕ} {made : List B} {next : ℕ}
    → IsWalked from total start items i made next → i ≡ length items → made ≡ from start items
all_made {from = from} {start = start} {items = items} walked end = walked.front ∙ ap (λ (n : ℕ). from start (take n items)) end ∙ ap (from start) (take-length items)

pub all_counted : {A B : Type 0} {from : ℕ → List A → List B} {total : List A → ℕ} {start : ℕ} {items : List A} {i : ℕ} {made : List B} {next : ℕ}
    → IsWalked from total start items i made next → i ≡ length items → next ≡ start + total items
all_counted {total = total} {start = start} {items = items} walked end = walked.count ∙ ap (λ (n : ℕ). start + total (take n items)) end ∙ ap (λ xs. start + total xs) (take-length items)

module _ {A B : Type 0} (one : ℕ → A → B) (size : A → ℕ) (from : ℕ → List A → List B) (total : List A → ℕ)
    (none : (n : ℕ) → from n [] ≡ []) (some : (n : ℕ) (x : A) (xs : List A) → from n (x ∷ xs) ≡ one n x ∷ from (n + size x) xs)
    (no_total : total [] ≡ 0) (some_total : (x : A) (xs : List A) → total (x ∷ xs) ≡ size x + total xs) where
  total_push : (xs : List A) (x : A) → total (xs ++ x ∷ []) ≡ total xs + size x
  total_push [] x = omega (arith, some_total x [], no_total)
  total_push (y ∷ xs) x = omega (arith, some_total y (xs ++ x ∷ []), some_total y xs, total_push xs x)

  from_push : (n : ℕ) (xs : List A) (x : A) → from n (xs ++ x ∷ []) ≡ from n xs ++ one (n + total xs) x ∷ []
  from_push n [] x =
      some n x [] ∙ ap (λ rest. one n x ∷ rest) (none (n + size x))
      ∙ ap (λ (at : ℕ). one at x ∷ []) (omega (arith, no_total)) ∙ ap (λ front. front ++ one (n + total []) x ∷ []) (sym (none n))
  from_push n (y ∷ xs) x =
      let place : n + size y + total xs ≡ n + total (y ∷ xs) = omega (arith, some_total y xs) in
      some n y (xs ++ x ∷ []) ∙ ap (λ rest. one n y ∷ rest) (from_push (n + size y) xs x)
      ∙ ap (λ (at : ℕ). one n y ∷ (from (n + size y) xs ++ one at x ∷ [])) place ∙ ap (λ front. front ++ one (n + total (y ∷ xs)) x ∷ []) (sym (some n y xs))

  -- one item more
  pub walked_more : (start : ℕ) (items : List A) (i : ℕ) (item d : A) (made : List B) (new : B) (next after : ℕ) → i < length items → item ≡ get_or items i d
      → IsWalked from total start items i made next → new ≡ one next item → after ≡ next + size item → IsWalked from total start items (i + 1) (made ++ new ∷ []) after
  walked_more start items i item d made new next after below is walked is_new is_after =
      let whole : take (i + 1) items ≡ take i items ++ item ∷ [] = take_more items i d below ∙ ap (λ x. take i items ++ x ∷ []) (sym is) in record {
        front = ap (λ front. front ++ new ∷ []) walked.front ∙ ap (λ x. from start (take i items) ++ x ∷ []) is_new
            ∙ ap (λ (at : ℕ). from start (take i items) ++ one at item ∷ []) walked.count ∙ sym (from_push start (take i items) item) ∙ ap (from start) (sym whole);
        count = omega (arith, is_after, walked.count, total_push (take i items) item, ap total whole);
      }
