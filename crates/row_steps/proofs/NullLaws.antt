-- A row of nulls, one by one.
use Rattle.std.proofs.Common.{◌≡◌, ◌∙◌, ℕ, suc, ◌+◌, ◌-◌, ◌<◌, List, [], ◌∷◌, ◌++◌, replicate, ap, append_assoc, arith}

pub one_more : {A : Type 0} (x : A) (done : List A) (width counter : ℕ) → counter < width → (done ++ x ∷ []) ++ replicate (width - (counter + 1)) x ≡ done ++ replicate (width - counter) x
one_more x done width counter below =
    let more : suc (width - (counter + 1)) ≡ width - counter = omega (arith, below) in
    append_assoc done (x ∷ []) (replicate (width - (counter + 1)) x) ∙ ap (λ n. done ++ replicate n x) more
