-- Lists of what each item is worth.
use Rattle.std.proofs.Common.{◌≡◌, ◌∙◌, List, [], ◌∷◌, ◌++◌, Result, Ok, Err, map, refl, sym, ap, append_assoc}
use Rattle.plan_denote.specs.Computed.{◌>>=◌, collect}

-- the values so far before the others, or their fault
abbrev pub behind : {B E : Type 0} → List B → Result (List B) E → Result (List B) E
behind done (Ok found) = Ok (done ++ found)
behind done (Err fault) = Err fault

behind_cons : {B E : Type 0} (done : List B) (x : B) (rest : Result (List B) E) → behind done (rest >>= (λ xs. Ok (x ∷ xs))) ≡ behind (done ++ x ∷ []) rest
behind_cons done x (Ok xs) = ap Ok (sym (append_assoc done (x ∷ []) xs))
behind_cons done x (Err fault) = refl

-- one value more
pub collected : {A B E : Type 0} (f : A → Result B E) (done : List B) (one : A) (left : List A) (value : B) → f one ≡ Ok value → behind done (collect (map f (one ∷ left))) ≡ behind (done ++ value ∷ []) (collect (map f left))
collected f done one left value is = ap (λ given. behind done (given >>= (λ x. collect (map f left) >>= (λ xs. Ok (x ∷ xs))))) is ∙ behind_cons done value (collect (map f left))

-- a fault ends it
pub faulted : {A B E : Type 0} (f : A → Result B E) (done : List B) (one : A) (left : List A) (fault : E) → f one ≡ Err fault → behind done (collect (map f (one ∷ left))) ≡ Err fault
faulted f done one left fault is = ap (λ given. behind done (given >>= (λ x. collect (map f left) >>= (λ xs. Ok (x ∷ xs))))) is
