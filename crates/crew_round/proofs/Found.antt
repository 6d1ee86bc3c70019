-- Equal items are told apart by their codes, so that an item that is counted is found.
use Rattle.std.proofs.Common.{◌≡◌, ℕ, ◌≤◌, Bool, true, false, cond, eqb, ◌&&◌, List, [], ◌∷◌, sum_by, Contains, arith, refl, ap, ◌∙◌, get_or}
use Rattle.std.specs.Coded.{Coded}
use Rattle.std.proofs.lemmas.Bool.Decides.{Decides-eqb}
use Rattle.std.proofs.lemmas.List.Sums.{sum_by-cons, get_or-le-sum_by}
use Rattle.std.proofs.lemmas.List.Elements.{Contains-append_right}
use base.Stored.{Gv, gnil, gnum, gcons}

abbrev same_codes : Gv → Gv → Bool
same_codes gnil gnil = true
same_codes (gnum m) (gnum n) = eqb m n
same_codes (gcons a b) (gcons c d) = same_codes a c && same_codes b d
same_codes _ _ = false

same_itself : (g : Gv) → same_codes g g ≡ true
same_itself gnil = refl
same_itself (gnum n) = (Decides-eqb n n).1 refl
same_itself (gcons a b) = λ i. same_itself a i && same_itself b i

both_true : (a b : Bool) → (a && b) ≡ true → (a ≡ true) × (b ≡ true)
both_true true true e = (refl, refl)
both_true true false e = (refl, e)
both_true false b e = (e, cc)

same_means : (g h : Gv) → same_codes g h ≡ true → g ≡ h
same_means gnil gnil e = refl
same_means (gnum m) (gnum n) e = ap gnum ((Decides-eqb m n).0 e)
same_means (gcons a b) (gcons c d) e =
    let t = both_true (same_codes a c) (same_codes b d) e in
    λ i. gcons (same_means a c t.0 i) (same_means b d t.1 i)
same_means gnil (gnum n) e = cc
same_means gnil (gcons c d) e = cc
same_means (gnum m) gnil e = cc
same_means (gnum m) (gcons c d) e = cc
same_means (gcons a b) gnil e = cc
same_means (gcons a b) (gnum n) e = cc

module _ {T : Type 0} (coded : Coded T) where
  -- one where the two are the same
  one : T → T → ℕ
  one x y = cond (same_codes (coded.code y) (coded.code x)) 1 0

  counted : (xs : List T) (x : T) → Contains xs x → 1 ≤ sum_by (one x) xs
  unfolding one
  counted xs x c =
      let at = get_or-le-sum_by (one x) xs c.0 x c.1 in
      let is : one x (get_or xs c.0 x) ≡ 1 = ap (one x) c.2 ∙ ap (λ b. cond b 1 0) (same_itself (coded.code x)) in
      omega (arith, at, is)

  found_here : (y : T) (ys : List T) (x : T) (b : Bool) → same_codes (coded.code y) (coded.code x) ≡ b → 1 ≤ sum_by (one x) (y ∷ ys) → (1 ≤ sum_by (one x) ys → Contains ys x) → Contains (y ∷ ys) x
  unfolding one
  found_here y ys x true is some later = (0, omega arith, coded.inj y x (same_means (coded.code y) (coded.code x) is))
  found_here y ys x false is some later =
      let none : one x y ≡ 0 = ap (λ b. cond b 1 0) is in
      Contains-append_right (y ∷ []) ys x (later (omega (arith, some, none, sum_by-cons (one x) y ys)))

  found : (xs : List T) (x : T) → 1 ≤ sum_by (one x) xs → Contains xs x
  found [] x some = absurd (omega (arith, some))
  found (y ∷ ys) x some = found_here y ys x (same_codes (coded.code y) (coded.code x)) refl some (found ys x)

  -- what is in a list is in each list that has as many of everything
  pub contains_over : (xs ys : List T) → ((f : T → ℕ) → sum_by f xs ≤ sum_by f ys) → (x : T) → Contains xs x → Contains ys x
  contains_over xs ys more x c = found ys x (omega (arith, counted xs x c, more (one x)))
