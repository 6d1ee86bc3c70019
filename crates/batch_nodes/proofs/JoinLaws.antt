-- Both operands' values put together, by a loop over the first one's.
use Rattle.std.proofs.Common.{inl, inr, subst, ◌≡◌, ◌∙◌, ℕ, ◌+◌, ◌<◌, ◌≤◌, List, [], ◌∷◌, ◌++◌, Option, Some, None, Result, Ok, length, drop, get_or, refl, sym, ap, ap₂, append_assoc}
use Rattle.std.proofs.Math.ListN.{drop_of_length-le}
use Rattle.std.proofs.lemmas.List.{append-nil, drop_more}
use Rattle.sub_types.specs.declared.fault.FaultKind.{FaultKind}
use Rattle.kernels.specs.declared.selection.Stop.{Stop}
use Rattle.kernels.specs.Until.{Until, step}
use Rattle.batch_nodes.specs.Narrowed.{put, joined, IsStep}
use Rattle.batch_nodes.proofs.UntilLaws.{prefixed}

joined-none : {X Y Z : Type 0} (settle : X → Option Y) (merge : X → Z → Result Y FaultKind) (rows : List ℕ) (stop : Stop) (others : List Z) (other_stop : Stop) → joined settle merge rows [] stop others other_stop ≡ record { values = []; stop = stop }
joined-none settle merge [] stop others other_stop = refl
joined-none settle merge (row ∷ rows) stop others other_stop = refl

module _ {X Y Z : Type 0} (settle : X → Option Y) (merge : X → Z → Result Y FaultKind) (rows : List ℕ) (values : List X) (stop : Stop) (others : List Z) (other_stop : Stop) where
  -- what is to come from this row on, with the other operand's values that are left
  abbrev pub from : ℕ → List Z → Until Y
  from i left = joined settle merge (drop i rows) (drop i values) stop left other_stop

  -- the values so far, and what is to come
  abbrev pub IsJoinSoFar : ℕ → ℕ → List Y → Type 0
  IsJoinSoFar i k built = joined settle merge rows values stop others other_stop ≡ prefixed built (from i (drop k others))

  next : (i : ℕ) (e x : X) (left : List Z) (s : Option Y) → i < length rows → i < length values → x ≡ get_or values i e → settle x ≡ s
      → from i left ≡ put merge (get_or rows i 0) x s left other_stop (from (i + 1))
  next i e x left s row_there value_there at is =
      ap₂ (λ rows values. joined settle merge rows values stop left other_stop) (drop_more rows i 0 row_there) (drop_more values i e value_there)
      ∙ ap (λ one. put merge (get_or rows i 0) one (settle one) left other_stop (from (i + 1))) (sym at)
      ∙ ap (λ s. put merge (get_or rows i 0) x s left other_stop (from (i + 1))) is

  one_more : (built : List Y) (y : Y) (rest : Until Y) → prefixed built (step 0 (Ok y) rest) ≡ prefixed (built ++ y ∷ []) rest
  one_more built y rest = ap (λ values. record { values = values; stop = rest.stop }) (sym (append_assoc built (y ∷ []) rest.values))

  pub IsJoinSoFar-settled : (i k : ℕ) (e x : X) (y : Y) (built : List Y) → IsJoinSoFar i k built → i < length rows → i < length values → x ≡ get_or values i e → settle x ≡ Some y → IsJoinSoFar (i + 1) k (built ++ y ∷ [])
  IsJoinSoFar-settled i k e x y built so_far row_there value_there at is =
      so_far ∙ ap (prefixed built) (next i e x (drop k others) (Some y) row_there value_there at is) ∙ one_more built y (from (i + 1) (drop k others))

  pub IsJoinSoFar-open : (i k : ℕ) (e x : X) (f z : Z) (y : Y) (built : List Y) → IsJoinSoFar i k built → i < length rows → i < length values → x ≡ get_or values i e → settle x ≡ None
      → k < length others → z ≡ get_or others k f → merge x z ≡ Ok y → IsJoinSoFar (i + 1) (k + 1) (built ++ y ∷ [])
  IsJoinSoFar-open i k e x f z y built so_far row_there value_there at is there other gives =
      let rest = from (i + 1) (drop (k + 1) others) in
      so_far
      ∙ ap (prefixed built) (
      next i e x (drop k others) None row_there value_there at is
      ∙ ap (λ left. put merge (get_or rows i 0) x None left other_stop (from (i + 1))) (drop_more others k f there)
      ∙ ap (λ one. step (get_or rows i 0) (merge x one) rest) (sym other)
      ∙ ap (λ r. step (get_or rows i 0) r rest) gives)
      ∙ one_more built y rest

  pub IsJoinSoFar-stopped : (i k : ℕ) (e x : X) (built : List Y) → IsJoinSoFar i k built → i < length rows → i < length values → x ≡ get_or values i e → settle x ≡ None → length others ≤ k
      → joined settle merge rows values stop others other_stop ≡ record { values = built; stop = other_stop }
  IsJoinSoFar-stopped i k e x built so_far row_there value_there at is end =
      so_far
      ∙ ap (prefixed built) (next i e x (drop k others) None row_there value_there at is ∙ ap (λ left. put merge (get_or rows i 0) x None left other_stop (from (i + 1))) (drop_of_length-le others end))
      ∙ ap (λ values. record { values = values; stop = other_stop }) (append-nil built)

  pub IsJoinSoFar-end : (i k : ℕ) (built : List Y) → IsJoinSoFar i k built → length values ≤ i → joined settle merge rows values stop others other_stop ≡ record { values = built; stop = stop }
  IsJoinSoFar-end i k built so_far end =
      so_far
      ∙ ap (prefixed built) (ap (λ left. joined settle merge (drop i rows) left stop (drop k others) other_stop) (drop_of_length-le values end) ∙ joined-none settle merge (drop i rows) stop (drop k others) other_stop)
      ∙ ap (λ values. record { values = values; stop = stop }) (append-nil built)

  pub IsJoinSoFar-step : (i k : ℕ) (e x : X) (f : Z) (next : Y × ℕ) (built : List Y) → IsJoinSoFar i k built → i < length rows → i < length values → x ≡ get_or values i e
      → IsStep settle merge f x others k (Some next) → IsJoinSoFar (i + 1) next.1 (built ++ next.0 ∷ [])
  IsJoinSoFar-step i k e x f next built so_far row_there value_there at is = elim is [
    | inl one ↦ subst (λ n. IsJoinSoFar (i + 1) n (built ++ next.0 ∷ [])) (sym one.1) (IsJoinSoFar-settled i k e x next.0 built so_far row_there value_there at one.0)
    | inr one ↦ subst (λ n. IsJoinSoFar (i + 1) n (built ++ next.0 ∷ [])) (sym one.3) (IsJoinSoFar-open i k e x f (get_or others k f) next.0 built so_far row_there value_there at one.0 one.1 refl one.2)
  ]
