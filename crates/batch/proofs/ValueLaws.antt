-- What follows of the values at places, of parts and of values that were added.
use Rattle.std.proofs.Common.{◌≡◌, ◌∙◌, ℕ, zero, suc, ◌-◌, ◌<◌, List, [], ◌∷◌, length, map, get_or, drop, replicate, refl, sym, ap}
use Rattle.std.specs.List.{slice_range, All}
use Rattle.std.proofs.Math.ListN.{get_or-map}
use Rattle.std.proofs.lemmas.List.Elements.{All-map, All-get_or, All-take, All-drop}
use Rattle.sub_types.specs.Rows.{picked}

-- a function of the values at these places
pub map-picked : {X Y : Type 0} (f : X → Y) (d : X) (at : List ℕ) (xs : List X) → map f (picked d at xs) ≡ picked (f d) at (map f xs)
map-picked f d [] xs = refl
map-picked f d (i ∷ at) xs =
    ap (λ y. y ∷ map f (picked d at xs)) (sym (get_or-map f xs i d)) ∙ ap (λ rest. get_or (map f xs) i (f d) ∷ rest) (map-picked f d at xs)

-- a function of one value over and over
pub map_replicate : {X Y : Type 0} (f : X → Y) (n : ℕ) (x : X) → map f (replicate n x) ≡ replicate n (f x)
map_replicate f zero x = refl
map_replicate f (suc n) x = ap (λ rest. f x ∷ rest) (map_replicate f n x)

-- what holds of all values holds of those at these places, and of those of a part
pub All-picked : {X : Type 0} (P : X → Type 0) (d : X) (at : List ℕ) (xs : List X) → All P xs → All (λ i. i < length xs) at → All P (picked d at xs)
All-picked P d at xs holds within =
    All-map P (λ i. get_or xs i d) at (λ k e below. All-get_or P xs (get_or at k e) d (within k e below) holds)

pub All-part : {X : Type 0} (P : X → Type 0) (xs : List X) (from to : ℕ) → All P xs → All P (slice_range xs from to)
All-part P xs from to holds = All-take P (to - from) (drop from xs) (All-drop P from xs holds)
