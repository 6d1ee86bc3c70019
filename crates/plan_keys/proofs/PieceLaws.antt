-- Pieces of a list that are written one after another.
use Rattle.std.proofs.Common.{◌≡◌, ◌∙◌, sym, List, ◌∷◌, ◌++◌, append_assoc}

module _ {A : Type 0} where
  -- what begins with two pieces, piece by piece
  pub split_two : (a b r c d s : List A) → (a ++ b) ++ r ≡ (c ++ d) ++ s → a ++ (b ++ r) ≡ c ++ (d ++ s)
  split_two a b r c d s same = sym (append_assoc a b r) ∙ same ∙ append_assoc c d s

  pub split_three : (a b c r d e f s : List A) → (a ++ b ++ c) ++ r ≡ (d ++ e ++ f) ++ s → a ++ (b ++ (c ++ r)) ≡ d ++ (e ++ (f ++ s))
  split_three a b c r d e f s same = split_two a b (c ++ r) d e (f ++ s) (split_two (a ++ b) c r (d ++ e) f s same)

  pub split_four : (a b c d r e f g h s : List A) → (a ++ b ++ c ++ d) ++ r ≡ (e ++ f ++ g ++ h) ++ s → a ++ (b ++ (c ++ (d ++ r))) ≡ e ++ (f ++ (g ++ (h ++ s)))
  split_four a b c d r e f g h s same = split_three a b c (d ++ r) e f g (h ++ s) (split_two (a ++ b ++ c) d r (e ++ f ++ g) h s same)

  pub heads : {x y : A} {xs ys : List A} → x ∷ xs ≡ y ∷ ys → x ≡ y
  heads same = cc

  pub tails : {x y : A} {xs ys : List A} → x ∷ xs ≡ y ∷ ys → xs ≡ ys
  tails same = cc
