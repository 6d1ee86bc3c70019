-- What follows of a part of a list: its length, its places, its own parts.
use Rattle.std.proofs.Common.{◌≡◌, ◌∙◌, ℕ, ◌+◌, ◌-◌, ◌<◌, ◌≤◌, List, [], ◌∷◌, ◌++◌, length, map, get_or, take, drop, ap, arith}
use Rattle.std.specs.List.{slice_range}
use Rattle.std.proofs.lemmas.List.{places, same_lists, length-take, length-drop, take-map, drop-map, get_or-take, get_or-drop, take_more}

-- how long it is
pub length-part : {X : Type 0} (xs : List X) (from to : ℕ) → to ≤ length xs → length (slice_range xs from to) ≡ to - from
length-part xs from to within = omega (arith, length-take (to - from) (drop from xs), length-drop from xs)

-- what stands in it
pub get_or-part : {X : Type 0} (xs : List X) (from to i : ℕ) (d : X) → from + i < to → get_or (slice_range xs from to) i d ≡ get_or xs (from + i) d
get_or-part xs from to i d below = get_or-take (to - from) (drop from xs) i d (omega arith) ∙ get_or-drop from xs i d

-- a part of a part
pub part-part : {X : Type 0} (xs : List X) (from len a b : ℕ) → a ≤ b → b ≤ len → from + len ≤ length xs → slice_range xs (from + a) (from + a + (b - a)) ≡ slice_range (slice_range xs from (from + len)) a b
part-part xs from len a b rising below within =
    same_lists _ _ (simp (length-take, length-drop) (omega arith)) (λ k d h. grind (arith, places))

-- a function of each value
pub part-map : {X Y : Type 0} (f : X → Y) (xs : List X) (from to : ℕ) → slice_range (map f xs) from to ≡ map f (slice_range xs from to)
part-map f xs from to = ap (take (to - from)) (drop-map f from xs) ∙ take-map f (to - from) (drop from xs)

-- one more value
pub part-more : {X : Type 0} (xs : List X) (from i : ℕ) (d : X) → from ≤ i → i < length xs → slice_range xs from (i + 1) ≡ slice_range xs from i ++ get_or xs i d ∷ []
part-more xs from i d rising below =
    let grown : i + 1 - from ≡ (i - from) + 1 = omega arith in
    let next : get_or (drop from xs) (i - from) d ≡ get_or xs i d = get_or-drop from xs (i - from) d ∙ ap (λ k. get_or xs k d) (omega arith) in
    ap (λ n. take n (drop from xs)) grown ∙ take_more (drop from xs) (i - from) d (omega (arith, length-drop from xs)) ∙ ap (λ x. slice_range xs from i ++ x ∷ []) next
