-- Lists that are made item by item.
use Rattle.std.proofs.Common.{◌≡◌, ◌∙◌, sym, ap, ℕ, ◌+◌, ◌<◌, List, [], ◌∷◌, ◌++◌, length, get_or, take, map}
use Rattle.std.proofs.lemmas.List.{map_push, take_more}

-- one item more on both sides
pub one_more : {A B C : Type 0} (f : A → C) (g : B → C) (made : List A) (all : List B) (i : ℕ) (d : B) (item : A) → i < length all → map f made ≡ map g (take i all) → f item ≡ g (get_or all i d) → map f (made ++ item ∷ []) ≡ map g (take (i + 1) all)
one_more f g made all i d item below so_far here =
    map_push f made item ∙ ap (λ front. front ++ f item ∷ []) so_far ∙ ap (λ last. map g (take i all) ++ last ∷ []) here ∙ sym (map_push g (take i all) (get_or all i d)) ∙ ap (map g) (sym (take_more all i d below))
