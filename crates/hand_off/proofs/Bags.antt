-- Items counted over lists of lists, and what a pass with all shares knows.
use Rattle.std.proofs.Common.{◌≡◌, ℕ, ◌+◌, List, [], ◌∷◌, length, sum_by, arith, refl, ap, ◌∙◌}
use Rattle.std.specs.List.{flat_map}
use Rattle.std.proofs.lemmas.List.{nil_from_length}
use Rattle.std.proofs.lemmas.List.Concat.{length-flat_map}
use Rattle.std.proofs.lemmas.List.Sums.{sum_by-append, sum_by-cons}
use Rattle.hand_off.specs.Hand.{IsSameBag, IsBeside}

module _ {T : Type 0} where
  pub bag-flat_map : {V : Type 0} (f : T → ℕ) (g : V → List T) (vs : List V) → sum_by f (flat_map g vs) ≡ sum_by (λ v. sum_by f (g v)) vs
  bag-flat_map f g [] = refl
  bag-flat_map f g (v ∷ vs) = omega (arith, sum_by-append f (g v) (flat_map g vs), bag-flat_map f g vs, sum_by-cons (λ u. sum_by f (g u)) v vs)

  pub flat_map-none : {V : Type 0} (g : V → List T) (vs : List V) → sum_by (λ v. length (g v)) vs ≡ 0 → flat_map g vs ≡ []
  flat_map-none g vs none = nil_from_length (flat_map g vs) (length-flat_map g vs ∙ none)

  -- beside a pass with all shares an empty queue means that what was offered is what was taken
  pub settled : (offered taken : List T) (share passes : ℕ) (items : List T) → IsBeside offered taken share passes items → share ≡ passes → length items ≡ 0 → IsSameBag offered taken
  settled offered taken share passes items b all none f =
      let alone = b.alone all in
      omega (arith, b.balance f, ap (sum_by f) alone.0, ap (sum_by f) alone.1, ap (sum_by f) (nil_from_length items none))

  -- beside a pass with all shares, what was offered is what was taken together with the queue
  pub balanced : (offered taken : List T) (share passes : ℕ) (items : List T) → IsBeside offered taken share passes items → share ≡ passes
      → (f : T → ℕ) → sum_by f offered ≡ sum_by f taken + sum_by f items
  balanced offered taken share passes items b all f =
      let alone = b.alone all in
      omega (arith, b.balance f, ap (sum_by f) alone.0, ap (sum_by f) alone.1)
