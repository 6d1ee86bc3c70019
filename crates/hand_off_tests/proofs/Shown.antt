-- What a worker's run shows of a worker that was ready.
use Rattle.std.proofs.Common.{◌≡◌, List, [], ◌++◌, ap, ◌∙◌, sym}

-- what a list gained from nothing is all that it has
pub all_gained : {X : Type 0} (old new more : List X) → old ≡ [] → new ≡ old ++ more → more ≡ new
all_gained old new more none e = sym (e ∙ ap (λ xs. xs ++ more) none)
