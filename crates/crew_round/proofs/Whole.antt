-- Labours that went to workers and came back in their places.
use Rattle.std.proofs.Common.{◌≡◌, List, [], ◌∷◌, ◌++◌, length, map, reverse, All, arith, refl, sym, ap, ◌∙◌, get_or}
use Rattle.std.proofs.lemmas.List.{reverse-append, map_push, length-map, length-reverse, get_or-map}

pub back_length : {W X : Type 0} (g : W → X) (ws : List W) (xs : List X) → reverse (map g ws) ≡ xs → length ws ≡ length xs
back_length g ws xs e = sym (length-reverse (map g ws) ∙ length-map ws g) ∙ ap length e

pub maps_length : {X Y Z : Type 0} (f : X → Z) (g : Y → Z) (xs : List X) (ys : List Y) → map f xs ≡ map g ys → length xs ≡ length ys
maps_length f g xs ys e = sym (length-map xs f) ∙ ap length e ∙ length-map ys g

map_back : {W X Y : Type 0} (g : W → X) (f : X → Y) (ws : List W) → map f (reverse (map g ws)) ≡ reverse (map (λ w. f (g w)) ws)
map_back g f [] = refl
map_back g f (w ∷ ws) =
    ap (map f) (reverse-append (g w ∷ []) (map g ws)) ∙ map_push f (reverse (map g ws)) (g w) ∙ ap (λ ys. ys ++ f (g w) ∷ []) (map_back g f ws)
    ∙ sym (reverse-append (f (g w) ∷ []) (map (λ v. f (g v)) ws))

-- what is the same of the workers before and after is the same of what came back
pub back_same : {W X Y : Type 0} (g : W → X) (f : X → Y) (after before : List W) (new old : List X)
    → map (λ w. f (g w)) after ≡ map (λ w. f (g w)) before → new ≡ reverse (map g after) → reverse (map g before) ≡ old → map f new ≡ map f old
back_same g f after before new old same n o = ap (map f) n ∙ map_back g f after ∙ ap reverse same ∙ sym (map_back g f before) ∙ ap (map f) o

pub all_same : {X Y : Type 0} (f : X → Y) (a : Y) (xs ys : List X) → map f xs ≡ map f ys → All (λ y. f y ≡ a) ys → All (λ x. f x ≡ a) xs
all_same f a xs ys same all k d below =
    sym (get_or-map f xs k d (f d) below) ∙ ap (λ zs. get_or zs k (f d)) same ∙ get_or-map f ys k d (f d) (omega (arith, below, maps_length f f xs ys same))
    ∙ all k d (omega (arith, below, maps_length f f xs ys same))
