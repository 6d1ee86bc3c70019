-- Parts that are checked one after the other, up to the first refusal.
use Rattle.std.proofs.Common.{◌≡◌, ◌∙◌, sym, ap, refl, ℕ, ◌+◌, ◌<◌, ◌≤◌, List, [], ◌∷◌, ◌++◌, length, take, drop, get_or, map, Result, Ok, Err}
use Rattle.std.proofs.lemmas.List.{map-append, take_more, take_all, at_drop_more, take-append-drop}
use Rattle.sub_types.specs.ResultSteps.{◌>>=◌, collect}
use Rattle.plan_verdict.specs.declared.rule.Rule.{Rule}
use Rattle.plan_verdict.specs.declared.rule.CheckError.{CheckError}
use Rattle.plan_verdict.specs.declared.rule.CheckError.TheVariants as errors
use Rattle.plan_verdict.specs.Checking.{Agrees}

-- what comes after values
abbrev after : {B E : Type 0} → List B → Result (List B) E → Result (List B) E
after front rest = rest >>= λ ys. Ok (front ++ ys)

after-nil : {B E : Type 0} (rest : Result (List B) E) → after [] rest ≡ rest
after-nil (Ok ys) = refl
after-nil (Err e) = refl

after-cons : {B E : Type 0} (x : B) (front : Result (List B) E) (rest : Result (List B) E) → ((front >>= λ xs. after xs rest) >>= λ ys. Ok (x ∷ ys)) ≡ ((front >>= λ xs. Ok (x ∷ xs)) >>= λ xs. after xs rest)
after-cons x (Err e) rest = refl
after-cons x (Ok xs) (Err e) = refl
after-cons x (Ok xs) (Ok ys) = refl

collect-append : {B E : Type 0} (front rest : List (Result B E)) → collect (front ++ rest) ≡ (collect front >>= λ xs. after xs (collect rest))
collect-append [] rest = sym (after-nil (collect rest))
collect-append (Err e ∷ front) rest = refl
collect-append {B} {E} (Ok x ∷ front) rest =
    ap (λ (all : Result (List B) E). all >>= λ ys. Ok (x ∷ ys)) (collect-append front rest) ∙ after-cons x (collect front) (collect rest)

-- what comes after values that were found
collect-after : {A B E : Type 0} (f : A → Result B E) (front rest : List A) (ys : List B) → collect (map f front) ≡ Ok ys → collect (map f (front ++ rest)) ≡ after ys (collect (map f rest))
collect-after {A} {B} {E} f front rest ys found =
    ap collect (map-append f front rest) ∙ collect-append (map f front) (map f rest)
    ∙ ap (λ (all : Result (List B) E). all >>= λ xs. after xs (collect (map f rest))) found

-- one more is found
pub collect-more : {A B E : Type 0} (f : A → Result B E) (xs : List A) (i : ℕ) (d x : A) (ys : List B) (y : B) → i < length xs → x ≡ get_or xs i d → collect (map f (take i xs)) ≡ Ok ys → f x ≡ Ok y → collect (map f (take (i + 1) xs)) ≡ Ok (ys ++ y ∷ [])
collect-more {A} {B} {E} f xs i d x ys y below here found one =
    ap (λ all. collect (map f all)) (take_more xs i d below ∙ ap (λ last. take i xs ++ last ∷ []) (sym here))
    ∙ collect-after f (take i xs) (x ∷ []) ys found
    ∙ ap (λ (last : Result B E). after ys (last >>= λ v. Ok (v ∷ []))) one

-- one is refused
collect-refused : {A B E : Type 0} (f : A → Result B E) (xs : List A) (i : ℕ) (d x : A) (ys : List B) (e : E) → i < length xs → x ≡ get_or xs i d → collect (map f (take i xs)) ≡ Ok ys → f x ≡ Err e → collect (map f xs) ≡ Err e
collect-refused {A} {B} {E} f xs i d x ys e below here found one =
    ap (λ all. collect (map f all)) (sym (take-append-drop i xs))
    ∙ collect-after f (take i xs) (drop i xs) ys found
    ∙ at_drop_more (λ left. after ys (collect (map f left))) xs i d below
    ∙ ap (λ (last : Result B E). after ys (last >>= λ v. collect (map f (drop (i + 1) xs)) >>= λ vs. Ok (v ∷ vs))) (sym (ap f here) ∙ one)

pub Agrees-refused : {A B : Type 0} (f : A → Result B Rule) (xs : List A) (i : ℕ) (d x : A) (ys : List B) (relation : ℕ) (error : CheckError) → i < length xs → x ≡ get_or xs i d → collect (map f (take i xs)) ≡ Ok ys → Agrees (Err error) relation (f x) → Agrees (Err error) relation (collect (map f xs))
Agrees-refused f xs i d x ys relation (errors.Refused refused rule) below here found one = (one.0, collect-refused f xs i d x ys rule below here found one.1)
Agrees-refused f xs i d x ys relation errors.NoMemory below here found one = tt

-- all are found
pub collect-end : {A B E : Type 0} (f : A → Result B E) (xs : List A) (i : ℕ) (ys : List B) → length xs ≤ i → collect (map f (take i xs)) ≡ Ok ys → collect (map f xs) ≡ Ok ys
collect-end f xs i ys done found = ap (λ all. collect (map f all)) (sym (take_all i xs done)) ∙ found
