-- What the blocks of one file add up to, among those of all files.
use Rattle.std.proofs.Common.{◌≡◌, ◌≢◌, ℕ, zero, suc, ◌+◌, ◌<◌, true, false, cond, eqb, List, [], ◌∷◌, map, sum_by, length, Option, Some, slice_get, arith, refl, ap, ◌∙◌, ⊎_elim}
use Rattle.std.specs.List.{range_with_len}
use Rattle.std.proofs.lemmas.Bool.Decides.{eqb_tells}
use Rattle.std.proofs.lemmas.List.Sums.{sum_by-cons, sum_by-append}
use Rattle.block_source.specs.Places.{place_in, places_in, places_from}
use Rattle.block_source.specs.declared.file.BlockPlace.{BlockPlace}

module _ {W X : Type 0} (g : W → X) where
  sum_map : (f : X → ℕ) (ws : List W) → sum_by f (map g ws) ≡ sum_by (λ w. f (g w)) ws
  sum_map f [] = refl
  sum_map f (w ∷ ws) = omega (arith, sum_by-cons f (g w) (map g ws), sum_by-cons (λ v. f (g v)) w ws, sum_map f ws)

range_later : (n from : ℕ) → range_with_len (from + 1) n ≡ map suc (range_with_len from n)
range_later zero from = refl
range_later (suc n) from = let e : from + 1 ≡ suc from = omega arith in λ i. e i ∷ range_later n (from + 1) i

-- a sum over the places of a list is one over its elements
pub sum_places : {P : Type 0} (f : Option P → ℕ) (ps : List P) → sum_by (λ n. f (slice_get ps n)) (range_with_len 0 (length ps)) ≡ sum_by (λ p. f (Some p)) ps
sum_places f [] = refl
sum_places f (p ∷ ps) =
    let g : ℕ → ℕ = λ n. f (slice_get (p ∷ ps) n) in
    let later = ap (sum_by g) (range_later (length ps) 0) ∙ sum_map suc g (range_with_len 0 (length ps)) in
    omega (arith, sum_by-cons g 0 (range_with_len 1 (length ps)), later, sum_places f ps, sum_by-cons (λ q. f (Some q)) p ps)

module _ {A : Type 0} (f : A → ℕ) (file : ℕ) (found : ℕ → List A) where
  -- what is found in a block of the file, and nothing in the others
  abbrev pub at_place : BlockPlace → ℕ
  at_place p = sum_by f (cond (eqb p.file file) (found p.block) [])

  here : (blocks : List ℕ) (other : ℕ) → other ≡ file → sum_by at_place (map (place_in other) blocks) ≡ sum_by (λ b. sum_by f (found b)) blocks
  here [] other same = refl
  here (b ∷ bs) other same =
      ⊎_elim
      (λ (t : (eqb other file ≡ true) × (other ≡ file)).
      let e : at_place (place_in other b) ≡ sum_by f (found b) = ap (λ c. sum_by f (cond c (found b) [])) t.0 in
      omega (arith, e, here bs other same, sum_by-cons at_place (place_in other b) (map (place_in other) bs), sum_by-cons (λ c. sum_by f (found c)) b bs))
      (λ (t : (eqb other file ≡ false) × (other ≢ file)). absurd (t.1 same))
      (eqb_tells other file)

  elsewhere : (blocks : List ℕ) (other : ℕ) → other ≢ file → sum_by at_place (map (place_in other) blocks) ≡ 0
  elsewhere [] other differs = refl
  elsewhere (b ∷ bs) other differs =
      ⊎_elim
      (λ (t : (eqb other file ≡ true) × (other ≡ file)). absurd (differs t.1))
      (λ (t : (eqb other file ≡ false) × (other ≢ file)).
      let e : at_place (place_in other b) ≡ 0 = ap (λ c. sum_by f (cond c (found b) [])) t.0 in
      omega (arith, e, elsewhere bs other differs, sum_by-cons at_place (place_in other b) (map (place_in other) bs)))
      (eqb_tells other file)

  later : (counts : List ℕ) (from : ℕ) → file < from → sum_by at_place (places_from from counts) ≡ 0
  later [] from past = refl
  later (blocks ∷ more) from past =
      let none = elsewhere (range_with_len 0 blocks) from (λ e. absurd (omega (arith, e, past))) in
      omega (arith, none, later more (from + 1) (omega (arith, past)), sum_by-append at_place (places_in from blocks) (places_from (from + 1) more))

  -- what is found in the blocks of the file, among those of all
  pub sum_file : (counts : List ℕ) (from place blocks : ℕ) → file ≡ from + place → slice_get counts place ≡ Some blocks
      → sum_by at_place (places_from from counts) ≡ sum_by (λ b. sum_by f (found b)) (range_with_len 0 blocks)
  sum_file [] from place blocks is some = cc
  sum_file (first ∷ more) from zero blocks is some =
      let same : first ≡ blocks = cc in
      let now = here (range_with_len 0 first) from (omega (arith, is)) in
      let rest = later more (from + 1) (omega (arith, is)) in
      omega (arith, now, rest, ap (λ n. sum_by (λ b. sum_by f (found b)) (range_with_len 0 n)) same, sum_by-append at_place (places_in from first) (places_from (from + 1) more))
  sum_file (first ∷ more) from (suc place) blocks is some =
      let none = elsewhere (range_with_len 0 first) from (λ e. absurd (omega (arith, e, is))) in
      omega (arith, none, sum_file more (from + 1) place blocks (omega (arith, is)) some, sum_by-append at_place (places_in from first) (places_from (from + 1) more))
