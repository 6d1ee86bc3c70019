-- Steps one after another: what is done so far, and what is left.
use Rattle.std.proofs.Common.{◌≡◌, ◌∙◌, List, [], ◌∷◌, ◌++◌, map, Result, Ok, Err, refl, sym, ap, append_assoc}
use Rattle.std.specs.List.{All}
use Rattle.std.proofs.lemmas.List.{append-nil}
use Rattle.std.proofs.lemmas.List.Elements.{All-nil, All-cons}
use Rattle.sub_types.specs.ResultSteps.{◌>>=◌, collect}

-- the values so far, and then those of the steps that are left, unless one of them refuses
abbrev pub followed : {X A E : Type 0} → (X → Result A E) → List A → List X → Result (List A) E
followed f so_far rest = collect (map f rest) >>= λ values. Ok (so_far ++ values)

module _ {X A E : Type 0} (f : X → Result A E) where
  pub followed_none : (xs : List X) → collect (map f xs) ≡ followed f [] xs
  followed_none xs = elim (collect (map f xs)) as (λ r. r ≡ (r >>= λ values. Ok values)) [ Ok values ↦ refl | Err e ↦ refl ]

  pub followed_more : (so_far : List A) (x : X) (rest : List X) (v : A) → f x ≡ Ok v → followed f so_far (x ∷ rest) ≡ followed f (so_far ++ v ∷ []) rest
  followed_more so_far x rest v h =
      rw h (elim (collect (map f rest)) as (λ (r : Result (List A) E). ((r >>= λ values. Ok (v ∷ values)) >>= λ values. Ok (so_far ++ values)) ≡ (r >>= λ values. Ok ((so_far ++ v ∷ []) ++ values))) [
        | Ok values ↦ ap (λ (l : List A). Ok l) (sym (append_assoc so_far (v ∷ []) values))
        | Err e ↦ refl
      ])

  pub followed_stops : (so_far : List A) (x : X) (rest : List X) (e : E) → f x ≡ Err e → followed f so_far (x ∷ rest) ≡ Err e
  followed_stops so_far x rest e h = rw h refl

  pub followed_all : (so_far : List A) → followed f so_far [] ≡ Ok so_far
  followed_all so_far = ap (λ (l : List A). Ok l) (append-nil so_far)

  -- what each value says of its step, the values say of the steps
  pub collect_map : {B : Type 0} (g : A → B) (h : X → B) → ((x : X) (v : A) → f x ≡ Ok v → g v ≡ h x) → (xs : List X) (values : List A) → collect (map f xs) ≡ Ok values → map g values ≡ map h xs
  collect_map g h each [] values e = let none : [] ≡ values = cc in ap (map g) (sym none)
  collect_map {B} g h each (x ∷ xs) values e =
      elim (f x) as (λ r. f x ≡ r → (r >>= λ v. collect (map f xs) >>= λ vs. Ok (v ∷ vs)) ≡ Ok values → map g values ≡ h x ∷ map h xs) [
        | Ok v ↦ λ here k. elim (collect (map f xs)) as (λ s. collect (map f xs) ≡ s → (s >>= λ vs. Ok (v ∷ vs)) ≡ Ok values → map g values ≡ h x ∷ map h xs) [
          | Ok vs ↦ λ there j.
              let whole : v ∷ vs ≡ values = cc in
              let first : g v ≡ h x = each x v here in
              let rest : map g vs ≡ map h xs = collect_map g h each xs vs there in
              ap (map g) (sym whole) ∙ ap (λ (b : B). b ∷ map g vs) first ∙ ap (λ (l : List B). h x ∷ l) rest
          | Err s ↦ λ there j. absurd (cc)
        ] refl k
        | Err s ↦ λ here k. absurd (cc)
      ] refl e

  -- so is what each value says alone
  pub collect_all : (P : A → Type 0) → ((x : X) (v : A) → f x ≡ Ok v → P v) → (xs : List X) (values : List A) → collect (map f xs) ≡ Ok values → All P values
  collect_all P each [] values e = let none : [] ≡ values = cc in elim values as (λ vs. [] ≡ vs → All P vs) [ [] ↦ λ k. All-nil P | v ∷ vs ↦ λ k. absurd (cc) ] none
  collect_all P each (x ∷ xs) [] e =
      elim (f x) as (λ r. (r >>= λ v. collect (map f xs) >>= λ vs. Ok (v ∷ vs)) ≡ Ok [] → All P []) [
        | Ok v ↦ λ k. All-nil P
        | Err s ↦ λ k. All-nil P
      ] e
  collect_all P each (x ∷ xs) (w ∷ ws) e =
      elim (f x) as (λ r. f x ≡ r → (r >>= λ v. collect (map f xs) >>= λ vs. Ok (v ∷ vs)) ≡ Ok (w ∷ ws) → All P (w ∷ ws)) [
        | Ok v ↦ λ here k. elim (collect (map f xs)) as (λ s. collect (map f xs) ≡ s → (s >>= λ vs. Ok (v ∷ vs)) ≡ Ok (w ∷ ws) → All P (w ∷ ws)) [
          | Ok vs ↦ λ there j.
              let first : v ≡ w = cc in
              let rest : vs ≡ ws = cc in
              All-cons P w ws (each x w (here ∙ ap (λ (a : A). Ok a) first)) (collect_all P each xs ws (there ∙ ap (λ (l : List A). Ok l) rest))
          | Err s ↦ λ there j. absurd (cc)
        ] refl k
        | Err s ↦ λ here k. absurd (cc)
      ] refl e
