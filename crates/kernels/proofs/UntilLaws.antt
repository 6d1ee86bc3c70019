-- Rows evaluated in order, by a loop.
use Rattle.std.proofs.Common.{◌≡◌, ◌∙◌, ℕ, suc, ◌+◌, ◌-◌, ◌<◌, ◌≤◌, List, [], ◌∷◌, ◌++◌, map, Result, Ok, Err, refl, sym, ap, ap₂, arith, append_assoc}
use Rattle.std.specs.List.{range_with_len}
use Rattle.std.proofs.lemmas.List.{append-nil}
use Rattle.sub_types.specs.declared.fault.FaultKind.{FaultKind}
use Rattle.kernels.specs.declared.selection.Stop.TheVariants.{Never, At}
use Rattle.kernels.specs.Until.{Until, step, until}

-- values, and then those of the rows that follow
abbrev pub prefixed : {X : Type 0} → List X → Until X → Until X
prefixed values rest = record { values = values ++ rest.values; stop = rest.stop }

-- the values so far, and the rows that are left
abbrev pub IsSoFar : {X : Type 0} → (ℕ → Result X FaultKind) → ℕ → ℕ → List X → Type 0
IsSoFar f n i values = until f (range_with_len 0 n) ≡ prefixed values (until f (range_with_len i (n - i)))

pub IsSoFar-none : {X : Type 0} (f : ℕ → Result X FaultKind) (n : ℕ) → IsSoFar f n 0 []
IsSoFar-none f n = let all : n ≡ n - 0 = omega arith in ap (λ m. until f (range_with_len 0 m)) all

next_row : {X : Type 0} (f : ℕ → Result X FaultKind) (n i : ℕ) → i < n → until f (range_with_len i (n - i)) ≡ step i (f i) (until f (range_with_len (i + 1) (n - (i + 1))))
next_row f n i below = let rest : n - i ≡ suc (n - (i + 1)) = omega arith in ap (λ m. until f (range_with_len i m)) rest

pub IsSoFar-more : {X : Type 0} (f : ℕ → Result X FaultKind) (n i : ℕ) (values : List X) (value : X) → IsSoFar f n i values → i < n → f i ≡ Ok value → IsSoFar f n (i + 1) (values ++ value ∷ [])
IsSoFar-more f n i values value so_far below is =
    let rest = until f (range_with_len (i + 1) (n - (i + 1))) in
    so_far
    ∙ ap (prefixed values) (next_row f n i below ∙ ap (λ r. step i r rest) is)
    ∙ ap (λ values. record { values = values; stop = rest.stop }) (sym (append_assoc values (value ∷ []) rest.values))

pub IsSoFar-fault : {X : Type 0} (f : ℕ → Result X FaultKind) (n i : ℕ) (values : List X) (kind : FaultKind) → IsSoFar f n i values → i < n → f i ≡ Err kind → until f (range_with_len 0 n) ≡ record { values = values; stop = At i kind }
IsSoFar-fault f n i values kind so_far below is =
    so_far
    ∙ ap (prefixed values) (next_row f n i below ∙ ap (λ r. step i r (until f (range_with_len (i + 1) (n - (i + 1))))) is)
    ∙ ap (λ values. record { values = values; stop = At i kind }) (append-nil values)

pub IsSoFar-end : {X : Type 0} (f : ℕ → Result X FaultKind) (n i : ℕ) (values : List X) → IsSoFar f n i values → n ≤ i → until f (range_with_len 0 n) ≡ record { values = values; stop = Never }
IsSoFar-end f n i values so_far end =
    let none : n - i ≡ 0 = omega arith in
    so_far ∙ ap (λ m. prefixed values (until f (range_with_len i m))) none ∙ ap (λ values. record { values = values; stop = Never }) (append-nil values)

-- rows with the same results
pub until-same : {X : Type 0} (f g : ℕ → Result X FaultKind) → ((i : ℕ) → f i ≡ g i) → (rows : List ℕ) → until f rows ≡ until g rows
until-same f g same [] = refl
until-same f g same (row ∷ rows) = ap₂ (step row) (same row) (until-same f g same rows)

-- a function of each result
abbrev pub result_map : {X Y : Type 0} → (X → Y) → Result X FaultKind → Result Y FaultKind
result_map g (Ok x) = Ok (g x)
result_map g (Err kind) = Err kind

step-mapped : {X Y : Type 0} (g : X → Y) (row : ℕ) (r : Result X FaultKind) (rest : Until X) → step row (result_map g r) (record { values = map g rest.values; stop = rest.stop }) ≡ record { values = map g (step row r rest).values; stop = (step row r rest).stop }
step-mapped g row (Ok x) rest = refl
step-mapped g row (Err kind) rest = refl

pub until-mapped : {X Y : Type 0} (g : X → Y) (f : ℕ → Result X FaultKind) (rows : List ℕ) → until (λ i. result_map g (f i)) rows ≡ record { values = map g (until f rows).values; stop = (until f rows).stop }
until-mapped g f [] = refl
until-mapped g f (row ∷ rows) = ap (step row (result_map g (f row))) (until-mapped g f rows) ∙ step-mapped g row (f row) (until f rows)
