-- Loops that find the places of grouping expressions in order: those so far, and those of what is left.
use Rattle.std.proofs.Common.{◌≡◌, ◌∙◌, sym, ap, ℕ, ◌+◌, ◌<◌, ◌≤◌, List, [], ◌∷◌, ◌++◌, length, drop, get_or, map, Option, Some, Result, Ok, Err, append_assoc, refl, arith}
use Rattle.std.proofs.lemmas.List.{at_drop_more}
use Rattle.plan_verdict.specs.declared.groups.Group.{Group}
use Rattle.plan_verdict.specs.declared.progress.Progress.{Progress}
use Rattle.std.specs.List.{range_with_len}
use Rattle.plan_typed.specs.declared.expr.Expr.{Expr}
use Rattle.plan_verdict.specs.declared.groups.Groups.{Groups}
use Rattle.plan_verdict.specs.declared.rule.CheckError.{CheckError}
use Rattle.plan_verdict.specs.declared.rule.CheckError.TheVariants as errors
use Rattle.check_groups.specs.Capped.{capped_group_in, capped_set_in, capped_sets_in, capped_several, capped_written_out}
use Rattle.plan_verdict.specs.Aggregates.{referred, sets_of_places}
use Rattle.plan_verdict.specs.Checking.{Agrees, Comes, Refusal, go_on, accept}
use Rattle.plan_verdict.specs.Exprs.{each_in}
use Rattle.plan_verdict.specs.Meaning.{Scope, Expression, Sets}

-- with these behind what is kept
abbrev pub followed : {A B : Type 0} → List B → Result ((A × List B) × Progress) Refusal → Result ((A × List B) × Progress) Refusal
followed front (Ok ((kept, rest), progress)) = Ok ((kept, front ++ rest), progress)
followed front (Err refusal) = Err refusal

followed-cons : {A B : Type 0} (front : List B) (value : B) (rest : Result ((A × List B) × Progress) Refusal) → followed (front ++ value ∷ []) rest ≡ followed front (go_on rest (λ (kept, values). accept (kept, value ∷ values)))
followed-cons front value (Ok ((kept, values), progress)) = ap (λ all. Ok ((kept, all), progress)) (append_assoc front (value ∷ []) values)
followed-cons front value (Err refusal) = refl

-- the next place is found
pub place_found : {A : Type 0} (scope : Scope) (f : A → Expression) (xs : List A) (i : ℕ) (x : A) (groups more : Option (List Group)) (places pushed : List ℕ) (place : ℕ) (before after : Progress) (whole : Result ((Option (List Group) × List ℕ) × Progress) Refusal)
    → i < length xs → x ≡ get_or xs i x → capped_group_in scope groups (f x) before ≡ Ok ((more, place), after) → pushed ≡ places ++ place ∷ []
    → followed places (capped_set_in scope groups (map f (drop i xs)) before) ≡ whole → followed pushed (capped_set_in scope more (map f (drop (i + 1) xs)) after) ≡ whole
place_found {A} scope f xs i x groups more places pushed place before after whole below here one push left =
    let rest = map f (drop (i + 1) xs) in
    ap (λ front. followed front (capped_set_in scope more rest after)) push
    ∙ followed-cons places place (capped_set_in scope more rest after)
    ∙ ap (λ (first : Result ((Option (List Group) × ℕ) × Progress) Refusal). followed places (go_on first (λ (kept, at). λ progress. go_on (capped_set_in scope kept rest progress) (λ (all, others). accept (all, at ∷ others))))) (sym one)
    ∙ ap (λ first. followed places (capped_set_in scope groups (map f (first ∷ drop (i + 1) xs)) before)) here
    ∙ sym (at_drop_more (λ left. followed places (capped_set_in scope groups (map f left) before)) xs i x below)
    ∙ left

-- the next set is found
pub set_found : {A : Type 0} (scope : Scope) (f : A → Sets) (xs : List A) (i : ℕ) (x : A) (groups more : Option (List Group)) (sets pushed : List (List ℕ)) (set : List ℕ) (before after : Progress) (whole : Result ((Option (List Group) × List (List ℕ)) × Progress) Refusal)
    → i < length xs → x ≡ get_or xs i x → capped_set_in scope groups (f x).expressions before ≡ Ok ((more, set), after) → pushed ≡ sets ++ set ∷ []
    → followed sets (capped_sets_in scope groups (map f (drop i xs)) before) ≡ whole → followed pushed (capped_sets_in scope more (map f (drop (i + 1) xs)) after) ≡ whole
set_found {A} scope f xs i x groups more sets pushed set before after whole below here one push left =
    let rest = map f (drop (i + 1) xs) in
    ap (λ front. followed front (capped_sets_in scope more rest after)) push
    ∙ followed-cons sets set (capped_sets_in scope more rest after)
    ∙ ap (λ (first : Result ((Option (List Group) × List ℕ) × Progress) Refusal). followed sets (go_on first (λ (kept, at). λ progress. go_on (capped_sets_in scope kept rest progress) (λ (all, others). accept (all, at ∷ others))))) (sym one)
    ∙ ap (λ first. followed sets (capped_sets_in scope groups (map f (first ∷ drop (i + 1) xs)) before)) here
    ∙ sym (at_drop_more (λ left. followed sets (capped_sets_in scope groups (map f left) before)) xs i x below)
    ∙ left

-- the expressions of the next set are refused
pub set_refused : {A : Type 0} (scope : Scope) (f : A → Sets) (xs : List A) (i : ℕ) (x : A) (groups : Option (List Group)) (sets : List (List ℕ)) (error : CheckError) (before : Progress) (whole : Result ((Option (List Group) × List (List ℕ)) × Progress) Refusal)
    → i < length xs → x ≡ get_or xs i x → Comes {A = Option (List Group) × List ℕ} (Err error) (capped_set_in scope groups (f x).expressions before)
    → followed sets (capped_sets_in scope groups (map f (drop i xs)) before) ≡ whole → Comes {A = Option (List Group) × List (List ℕ)} (Err error) whole
set_refused {A} scope f xs i x groups sets (errors.Refused relation rule) before whole below here refused left =
    let rest = map f (drop (i + 1) xs) in
    sym left ∙ at_drop_more (λ left. followed sets (capped_sets_in scope groups (map f left) before)) xs i x below
    ∙ ap (λ first. followed sets (capped_sets_in scope groups (map f (first ∷ drop (i + 1) xs)) before)) (sym here)
    ∙ ap (λ (first : Result ((Option (List Group) × List ℕ) × Progress) Refusal). followed sets (go_on first (λ (kept, at). λ progress. go_on (capped_sets_in scope kept rest progress) (λ (all, others). accept (all, at ∷ others))))) refused
set_refused scope f xs i x groups sets errors.NoMemory before whole below here refused left = tt

-- one grouping
pub one_accepted : (scope : Scope) (one : Sets) (exprs : List Expr) (p0 p1 : Progress) → each_in scope one.expressions p0 ≡ Ok (exprs, p1)
    → capped_written_out scope (one ∷ []) p0 ≡ Ok (Some (record { groups = exprs; sets = range_with_len 0 (length exprs) ∷ [] }), p1)
one_accepted scope one exprs p0 p1 first = rw first refl

pub one_refused : (scope : Scope) (one : Sets) (error : CheckError) (p0 : Progress) → Comes {A = List Expr} (Err error) (each_in scope one.expressions p0) → Comes {A = Option Groups} (Err error) (capped_written_out scope (one ∷ []) p0)
one_refused scope one (errors.Refused relation rule) p0 refused = rw refused refl
one_refused scope one errors.NoMemory p0 refused = tt

pub single : {A : Type 0} (scope : Scope) (f : A → Sets) (xs : List A) (x : A) (p0 : Progress) → 1 ≤ length xs → length xs < 2 → x ≡ get_or xs 0 x → capped_written_out scope (f x ∷ []) p0 ≡ capped_written_out scope (map f xs) p0
single scope f [] x p0 some few is = absurd (omega (arith, some))
single scope f (one ∷ []) x p0 some few is = ap (λ first. capped_written_out scope (f first ∷ []) p0) is
single scope f (one ∷ two ∷ rest) x p0 some few is = absurd (omega (arith, few))

-- two groupings or more
pub several : {A : Type 0} (scope : Scope) (f : A → Sets) (xs : List A) (p0 : Progress) → 2 ≤ length xs → capped_several scope (map f xs) p0 ≡ capped_written_out scope (map f xs) p0
several scope f [] p0 long = absurd (omega (arith, long))
several scope f (one ∷ []) p0 long = absurd (omega (arith, long))
several scope f (one ∷ two ∷ rest) p0 long = refl

-- groupings that refer to expressions
pub referred_accepted : (scope : Scope) (expressions : List Expression) (groupings : List Sets) (exprs : List Expr) (sets : List (List ℕ)) (p0 p1 : Progress)
    → each_in scope expressions p0 ≡ Ok (exprs, p1) → sets_of_places (length exprs) (map (λ (one : Sets). one.references) groupings) ≡ Ok sets → referred scope expressions groupings p0 ≡ Ok (record { groups = exprs; sets = sets }, p1)
referred_accepted scope expressions groupings exprs sets p0 p1 first second = rw (first, second) refl

pub referred_refused : (scope : Scope) (expressions : List Expression) (groupings : List Sets) (exprs : List Expr) (error : CheckError) (p0 p1 : Progress)
    → each_in scope expressions p0 ≡ Ok (exprs, p1) → Agrees {A = List (List ℕ)} (Err error) scope.relation (sets_of_places (length exprs) (map (λ (one : Sets). one.references) groupings))
    → Comes {A = Groups} (Err error) (referred scope expressions groupings p0)
referred_refused scope expressions groupings exprs (errors.Refused relation rule) p0 p1 first second = rw (first, second.1) (ap (λ at. Err (record { relation = at; rule = rule })) (sym second.0))
referred_refused scope expressions groupings exprs errors.NoMemory p0 p1 first second = tt
