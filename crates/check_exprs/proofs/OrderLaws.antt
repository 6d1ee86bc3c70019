-- Loops that check each of a list in order: what is checked so far, and the checks that are left.
use Rattle.std.proofs.Common.{◌≡◌, ◌∙◌, sym, ap, refl, List, [], ◌∷◌, ◌++◌, length, map, zip, Result, Ok, Err, append_assoc, subst, arith}
use Rattle.std.proofs.lemmas.List.{append-nil}
use Rattle.std.proofs.lemmas.Simd.{map-map}
use Rattle.plan_verdict.specs.declared.progress.Progress.{Progress}
use Rattle.plan_verdict.specs.declared.rule.CheckError.{CheckError}
use Rattle.plan_verdict.specs.Checking.{Checking, Comes, Refusal, in_order, go_on, accept, ◌>>=◌}

-- with these values in front
abbrev pub prefixed : {B : Type 0} → List B → Result (List B × Progress) Refusal → Result (List B × Progress) Refusal
prefixed front (Ok (rest, progress)) = Ok (front ++ rest, progress)
prefixed front (Err refusal) = Err refusal

-- the values so far and the checks of what is left give what all checks give
abbrev pub Left : {A B : Type 0} → (A → Checking B) → List A → List B → Progress → Result (List B × Progress) Refusal → Type 0
Left f left values progress whole = prefixed values (in_order (map f left) progress) ≡ whole

-- one of two lists side by side is at its end
pub no_firsts : {A B : Type 0} (xs : List A) (ys : List B) → length xs ≡ 0 → zip xs ys ≡ []
no_firsts [] ys none = refl
no_firsts (x ∷ xs) ys none = absurd (omega (arith, none))

pub no_seconds : {A B : Type 0} (xs : List A) (ys : List B) → length ys ≡ 0 → zip xs ys ≡ []
no_seconds [] ys none = refl
no_seconds (x ∷ xs) [] none = refl
no_seconds (x ∷ xs) (y ∷ ys) none = absurd (omega (arith, none))

pub nothing_left : {A B C : Type 0} (f : A × B → Checking C) (xs : List A) (ys : List B) (values : List C) (progress : Progress) (whole : Result (List C × Progress) Refusal)
    → zip xs ys ≡ [] → Left f (zip xs ys) values progress whole → whole ≡ Ok (values, progress)
nothing_left f xs ys values progress whole none left =
    sym left ∙ ap (λ pairs. prefixed values (in_order (map f pairs) progress)) none ∙ ap (λ all. Ok (all, progress)) (append-nil values)

prefixed-cons : {B : Type 0} (front : List B) (value : B) (rest : Result (List B × Progress) Refusal) → prefixed front (go_on rest (λ values. accept (value ∷ values))) ≡ prefixed (front ++ value ∷ []) rest
prefixed-cons front value (Ok (values, progress)) = ap (λ all. Ok (all, progress)) (sym (append_assoc front (value ∷ []) values))
prefixed-cons front value (Err refusal) = refl

left-more : {A B : Type 0} (f : A → Checking B) (x : A) (rest : List A) (values : List B) (value : B) (before after : Progress) (whole : Result (List B × Progress) Refusal) → f x before ≡ Ok (value, after) → Left f (x ∷ rest) values before whole → Left f rest (values ++ value ∷ []) after whole
left-more {A} {B} f x rest values value before after whole one left =
    sym (prefixed-cons values value (in_order (map f rest) after))
    ∙ ap (λ (first : Result (B × Progress) Refusal). prefixed values (go_on first (λ v. in_order (map f rest) >>= λ vs. accept (v ∷ vs)))) (sym one)
    ∙ left

-- the next two are checked
pub pair_checked : {A B C : Type 0} (f : A → B → Checking C) (x : A) (y : B) (xs rest : List A) (ys others : List B) (values pushed : List C) (value : C) (before after : Progress) (whole : Result (List C × Progress) Refusal)
    → xs ≡ x ∷ rest → ys ≡ y ∷ others → f x y before ≡ Ok (value, after) → pushed ≡ values ++ value ∷ []
    → Left (λ (pair : A × B). f pair.0 pair.1) (zip xs ys) values before whole → Left (λ (pair : A × B). f pair.0 pair.1) (zip rest others) pushed after whole
pair_checked {A} {B} {C} f x y xs rest ys others values pushed value before after whole first second one push left =
    let g : A × B → Checking C = λ pair. f pair.0 pair.1 in
    ap (λ front. prefixed front (in_order (map g (zip rest others)) after)) push
    ∙ left-more g (x, y) (zip rest others) values value before after whole one
    (ap (λ (all : List A). prefixed values (in_order (map g (zip all (y ∷ others))) before)) (sym first) ∙ ap (λ (all : List B). prefixed values (in_order (map g (zip xs all)) before)) (sym second) ∙ left)

-- checks of what was made of each
pub each_made : {A B C : Type 0} (f : B → Checking C) (g : A → B) (xs : List A) (progress : Progress) (result : Result (List C × Progress) CheckError) → Comes result (in_order (map (λ x. f (g x)) xs) progress) → Comes result (in_order (map f (map g xs)) progress)
each_made {A} {B} {C} f g xs progress result = subst (λ (checks : List (Checking C)). Comes result (in_order checks progress)) (sym (map-map f g xs))

-- checks of what was made of each of the first of two lists
pub two_made : {A B C D : Type 0} (f : B → C → D) (g : A → B) (xs : List A) (ys : List C) → map (λ (pair : B × C). f pair.0 pair.1) (zip (map g xs) ys) ≡ map (λ (pair : A × C). f (g pair.0) pair.1) (zip xs ys)
two_made f g [] ys = refl
two_made f g (x ∷ xs) [] = refl
two_made f g (x ∷ xs) (y ∷ ys) = ap (λ rest. f (g x) y ∷ rest) (two_made f g xs ys)
