-- What a receipt has once its lists were pushed to.
use Rattle.std.proofs.Common.{◌≡◌, ℕ, List, [], ◌∷◌, ◌++◌, ap, ◌∙◌}
use Rattle.run_core.specs.Receipts.{Lists}

-- a number taken and finished
pub note_taken : (old reserved new : Lists) (taken : List ℕ) (n m : ℕ) → reserved ≡ old → taken ≡ reserved.taken ++ n ∷ [] → n ≡ m → new ≡ record reserved { taken = taken; finished = reserved.finished ++ m ∷ [] }
    → new ≡ record old { taken = old.taken ++ m ∷ []; finished = old.finished ++ m ∷ [] }
note_taken old reserved new taken n m same t is e =
    e ∙ ap (λ (xs : List ℕ). record reserved { taken = xs; finished = reserved.finished ++ m ∷ [] }) (t ∙ ap (λ (k : ℕ). reserved.taken ++ k ∷ []) is)
    ∙ ap (λ (r : Lists). record r { taken = r.taken ++ m ∷ []; finished = r.finished ++ m ∷ [] }) same

-- a number claimed and finished
pub note_kept : (old reserved new : Lists) (claimed : List ℕ) (n m x : ℕ) → reserved ≡ old → claimed ≡ reserved.claimed ++ n ∷ [] → n ≡ x → m ≡ x → new ≡ record reserved { claimed = claimed; finished = reserved.finished ++ m ∷ [] }
    → new ≡ record old { claimed = old.claimed ++ x ∷ []; finished = old.finished ++ x ∷ [] }
note_kept old reserved new claimed n m x same c is is' e =
    e ∙ ap (λ (xs : List ℕ). record reserved { claimed = xs; finished = reserved.finished ++ m ∷ [] }) (c ∙ ap (λ (k : ℕ). reserved.claimed ++ k ∷ []) is)
    ∙ ap (λ (k : ℕ). record reserved { claimed = reserved.claimed ++ x ∷ []; finished = reserved.finished ++ k ∷ [] }) is'
    ∙ ap (λ (r : Lists). record r { claimed = r.claimed ++ x ∷ []; finished = r.finished ++ x ∷ [] }) same

-- a number claimed and offered
pub note_offered : (old reserved new : Lists) (claimed : List ℕ) (n x : ℕ) → reserved ≡ old → claimed ≡ reserved.claimed ++ n ∷ [] → n ≡ x → new ≡ record reserved { claimed = claimed; offered = reserved.offered ++ x ∷ [] }
    → new ≡ record old { claimed = old.claimed ++ x ∷ []; offered = old.offered ++ x ∷ [] }
note_offered old reserved new claimed n x same c is e =
    e ∙ ap (λ (xs : List ℕ). record reserved { claimed = xs; offered = reserved.offered ++ x ∷ [] }) (c ∙ ap (λ (k : ℕ). reserved.claimed ++ k ∷ []) is)
    ∙ ap (λ (r : Lists). record r { claimed = r.claimed ++ x ∷ []; offered = r.offered ++ x ∷ [] }) same
