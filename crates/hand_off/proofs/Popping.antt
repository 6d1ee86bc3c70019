-- A list whose last element was popped or pushed.
use Rattle.std.proofs.Common.{◌≡◌, ℕ, ◌+◌, List, [], ◌∷◌, ◌++◌, sum_by, All, Some, ap, sym, subst, ◌∙◌}
use Rattle.std.proofs.lemmas.List.Sums.{sum_by_push}
use Rattle.std.proofs.lemmas.List.Elements.{All-pop, All-push}

module _ {X : Type 0} where
  pub popped_sum : (f : X → ℕ) (xs ys : List X) (x : X) → xs ≡ ys ++ x ∷ [] → sum_by f xs ≡ sum_by f ys + f x
  popped_sum f xs ys x e = ap (sum_by f) e ∙ sum_by_push f ys x

  pub popped_all : (P : X → Type 0) (xs ys : List X) (x : X) → xs ≡ ys ++ x ∷ [] → All P xs → All P ys × P x
  popped_all P xs ys x e all = All-pop P xs ys (Some x) e all

  pub pushed_all : (P : X → Type 0) (xs ys : List X) (x : X) → ys ≡ xs ++ x ∷ [] → All P xs → P x → All P ys
  pushed_all P xs ys x e all p = subst (All P) (sym e) (All-push P xs x all p)
