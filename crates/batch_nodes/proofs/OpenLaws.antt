-- The rows that are left open, by a loop over an operand's values.
use Rattle.std.proofs.Common.{◌≡◌, ◌∙◌, ℕ, ◌+◌, ◌<◌, ◌≤◌, List, [], ◌∷◌, ◌++◌, true, false, Option, Some, None, is_some, length, drop, get_or, refl, sym, ap, ap₂, append_assoc}
use Rattle.std.proofs.Math.ListN.{drop_of_length-le}
use Rattle.std.proofs.lemmas.List.{append-nil, drop_more}
use Rattle.batch_nodes.specs.Narrowed.{left_open, open_rows}

settled : {Y : Type 0} (s : Option Y) (row : ℕ) (rest : List ℕ) → is_some s ≡ true → left_open row s rest ≡ rest
settled (Some y) row rest is = refl
settled None row rest is = absurd (cc)

unsettled : {Y : Type 0} (s : Option Y) (row : ℕ) (rest : List ℕ) → is_some s ≡ false → left_open row s rest ≡ row ∷ rest
unsettled (Some y) row rest is = absurd (cc)
unsettled None row rest is = refl

open_rows-none : {X Y : Type 0} (settle : X → Option Y) (rows : List ℕ) → open_rows settle rows [] ≡ []
open_rows-none settle [] = refl
open_rows-none settle (row ∷ rows) = refl

module _ {X Y : Type 0} (settle : X → Option Y) (rows : List ℕ) (values : List X) where
  -- the rows left open so far, and what is to come
  abbrev pub IsOpenSoFar : ℕ → List ℕ → Type 0
  IsOpenSoFar i left = left ++ open_rows settle (drop i rows) (drop i values) ≡ open_rows settle rows values

  next : (i d : ℕ) (e x : X) → i < length rows → i < length values → x ≡ get_or values i e
      → open_rows settle (drop i rows) (drop i values) ≡ left_open (get_or rows i d) (settle x) (open_rows settle (drop (i + 1) rows) (drop (i + 1) values))
  next i d e x row_there value_there at =
      ap₂ (open_rows settle) (drop_more rows i d row_there) (drop_more values i e value_there)
      ∙ ap (λ one. left_open (get_or rows i d) (settle one) (open_rows settle (drop (i + 1) rows) (drop (i + 1) values))) (sym at)

  pub IsOpenSoFar-none : IsOpenSoFar 0 []
  IsOpenSoFar-none = refl

  pub IsOpenSoFar-settled : (i : ℕ) (e x : X) (left : List ℕ) → IsOpenSoFar i left → i < length rows → i < length values → x ≡ get_or values i e → is_some (settle x) ≡ true → IsOpenSoFar (i + 1) left
  IsOpenSoFar-settled i e x left so_far row_there value_there at is =
      ap (λ rest. left ++ rest) (sym (next i 0 e x row_there value_there at ∙ settled (settle x) (get_or rows i 0) (open_rows settle (drop (i + 1) rows) (drop (i + 1) values)) is)) ∙ so_far

  pub IsOpenSoFar-more : (i d : ℕ) (e x : X) (left : List ℕ) → IsOpenSoFar i left → i < length rows → i < length values → x ≡ get_or values i e → is_some (settle x) ≡ false → IsOpenSoFar (i + 1) (left ++ get_or rows i d ∷ [])
  IsOpenSoFar-more i d e x left so_far row_there value_there at is =
      append_assoc left (get_or rows i d ∷ []) (open_rows settle (drop (i + 1) rows) (drop (i + 1) values))
      ∙ ap (λ rest. left ++ rest) (sym (next i d e x row_there value_there at ∙ unsettled (settle x) (get_or rows i d) (open_rows settle (drop (i + 1) rows) (drop (i + 1) values)) is))
      ∙ so_far

  pub IsOpenSoFar-end : (i : ℕ) (left : List ℕ) → IsOpenSoFar i left → length values ≤ i → left ≡ open_rows settle rows values
  IsOpenSoFar-end i left so_far end =
      sym (append-nil left)
      ∙ ap (λ rest. left ++ rest) (sym (ap (open_rows settle (drop i rows)) (drop_of_length-le values end) ∙ open_rows-none settle (drop i rows)))
      ∙ so_far
