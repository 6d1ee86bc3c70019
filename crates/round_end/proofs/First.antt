-- Where nothing counts, a read failed, and before it neither a read nor the work did.
use Rattle.std.proofs.Common.{◌≡◌, ℕ, zero, suc, ◌<◌, List, [], ◌∷◌, Option, Some, None, slice_get, arith, refl}
use Rattle.std.specs.Option.{option_map}
use Rattle.round_end.specs.declared.outcome.Outcome.{Outcome}
use Rattle.round_end.specs.declared.outcome.Outcome.TheVariants.{Made, Ended, ReadFault}
use Rattle.round_end.specs.Decided.{Decided, decided, made_before, IsFirstUnread}

module _ {M : Type 0} where
  unmapped : (made : M) (found : Option (Decided M)) → option_map (made_before (made ∷ [])) found ≡ None → found ≡ None
  unmapped made None e = refl
  unmapped made (Some d) e = absurd cc

  made_at : (made : M) (outs : List (Outcome M)) (k : ℕ) → IsFirstUnread outs k → (j : ℕ) → j < suc k → (m : M) × (slice_get (Made made ∷ outs) j ≡ Some (Made m))
  made_at made outs k first zero below = (made, refl)
  made_at made outs k first (suc j) below = first.before j (omega (arith, below))

  pub first_unread : (outs : List (Outcome M)) → decided outs ≡ None → (k : ℕ) × IsFirstUnread outs k
  first_unread [] none = absurd cc
  first_unread (Made made ∷ outs) none =
      let later = first_unread outs (unmapped made (decided outs) none) in
      (suc later.0, record { here = later.1.here; before = λ j below. made_at made outs later.0 later.1 j below })
  first_unread (Ended made fault ∷ outs) none = absurd cc
  first_unread (ReadFault ∷ outs) none = (zero, record { here = refl; before = λ j below. absurd (omega (arith, below)) })
