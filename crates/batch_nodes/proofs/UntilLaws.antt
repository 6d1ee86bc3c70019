-- Rows evaluated up to the first fault: constants, columns, functions of one value, and rows in two parts.
use Rattle.std.proofs.Common.{◌≡◌, ◌∙◌, ℕ, ◌+◌, ◌<◌, ◌≤◌, List, [], ◌∷◌, ◌++◌, map, length, replicate, drop, get_or, Result, Ok, Err, refl, sym, ap, ap₂, append_assoc}
use Rattle.std.specs.List.{All}
use Rattle.std.proofs.Math.ListN.{drop_of_length-le}
use Rattle.std.proofs.lemmas.List.{append-nil, drop_more}
use Rattle.std.proofs.lemmas.List.Elements.{All-head, All-tail}
use Rattle.sub_types.specs.declared.fault.FaultKind.{FaultKind}
use Rattle.sub_types.specs.ResultSteps.{◌>>=◌}
use Rattle.kernels.specs.declared.selection.Stop.{Stop}
use Rattle.kernels.specs.declared.selection.Stop.TheVariants.{Never, At}
use Rattle.kernels.specs.Until.{Until, step, until}
use Rattle.batch_nodes.specs.Narrowed.{followed, applied}

-- rows in two parts
followed-step : {X : Type 0} (row : ℕ) (value : X) (values : List X) (stop : Stop) (more : Until X) → step row (Ok value) (followed values stop more) ≡ followed (value ∷ values) stop more
followed-step row value values Never more = refl
followed-step row value values (At at kind) more = refl

one_before : {X : Type 0} (row : ℕ) (r : Result X FaultKind) (rest more : Until X) → step row r (followed rest.values rest.stop more) ≡ followed (step row r rest).values (step row r rest).stop more
one_before row (Ok value) rest more = followed-step row value rest.values rest.stop more
one_before row (Err kind) rest more = refl

pub until-append : {X : Type 0} (f : ℕ → Result X FaultKind) (rows more : List ℕ) → until f (rows ++ more) ≡ followed (until f rows).values (until f rows).stop (until f more)
until-append f [] more = refl
until-append f (row ∷ rows) more = ap (step row (f row)) (until-append f rows more) ∙ one_before row (f row) (until f rows) (until f more)

-- rows that all have a value
pub until-values : {X : Type 0} (P : ℕ → Type 0) (f : ℕ → Result X FaultKind) (at : ℕ → X) → ((i : ℕ) → P i → f i ≡ Ok (at i)) → (rows : List ℕ) → All P rows → until f rows ≡ record { values = map at rows; stop = Never }
until-values P f at is [] all = refl
until-values P f at is (row ∷ rows) all = ap₂ (step row) (is row (All-head P row rows all)) (until-values P f at is rows (All-tail P row rows all))

pub until-constant : {X : Type 0} (f : ℕ → Result X FaultKind) (value : X) → ((i : ℕ) → f i ≡ Ok value) → (rows : List ℕ) → until f rows ≡ record { values = replicate (length rows) value; stop = Never }
until-constant f value is [] = refl
until-constant f value is (row ∷ rows) = ap₂ (step row) (is row) (until-constant f value is rows)

-- a function of one value
one_applied : {X Y : Type 0} (k : X → Result Y FaultKind) (row : ℕ) (rows : List ℕ) (r : Result X FaultKind) (rest : Until X)
    → step row (r >>= k) (applied k rows rest.values rest.stop) ≡ applied k (row ∷ rows) (step row r rest).values (step row r rest).stop
one_applied k row rows (Ok x) rest = refl
one_applied k row rows (Err kind) rest = refl

pub until-applied : {X Y : Type 0} (k : X → Result Y FaultKind) (f : ℕ → Result X FaultKind) (rows : List ℕ) → until (λ i. f i >>= k) rows ≡ applied k rows (until f rows).values (until f rows).stop
until-applied k f [] = refl
until-applied k f (row ∷ rows) = ap (step row (f row >>= k)) (until-applied k f rows) ∙ one_applied k row rows (f row) (until f rows)

-- ---- a loop over rows

abbrev pub prefixed : {X : Type 0} → List X → Until X → Until X
prefixed values rest = record { values = values ++ rest.values; stop = rest.stop }

-- the values so far, and what is left
abbrev pub IsSoFar : {X : Type 0} → (ℕ → Result X FaultKind) → List ℕ → ℕ → List X → Type 0
IsSoFar f rows i values = until f rows ≡ prefixed values (until f (drop i rows))

next_row : {X : Type 0} (f : ℕ → Result X FaultKind) (rows : List ℕ) (i row : ℕ) → i < length rows → row ≡ get_or rows i row → until f (drop i rows) ≡ step row (f row) (until f (drop (i + 1) rows))
next_row f rows i row below is = ap (until f) (drop_more rows i row below) ∙ ap (λ one. step one (f one) (until f (drop (i + 1) rows))) (sym is)

pub IsSoFar-more : {X : Type 0} (f : ℕ → Result X FaultKind) (rows : List ℕ) (i row : ℕ) (values : List X) (value : X) → IsSoFar f rows i values → i < length rows → row ≡ get_or rows i row → f row ≡ Ok value → IsSoFar f rows (i + 1) (values ++ value ∷ [])
IsSoFar-more f rows i row values value so_far below at is =
    let rest = until f (drop (i + 1) rows) in
    so_far
    ∙ ap (prefixed values) (next_row f rows i row below at ∙ ap (λ r. step row r rest) is)
    ∙ ap (λ values. record { values = values; stop = rest.stop }) (sym (append_assoc values (value ∷ []) rest.values))

pub IsSoFar-fault : {X : Type 0} (f : ℕ → Result X FaultKind) (rows : List ℕ) (i row : ℕ) (values : List X) (kind : FaultKind) → IsSoFar f rows i values → i < length rows → row ≡ get_or rows i row → f row ≡ Err kind → until f rows ≡ record { values = values; stop = At row kind }
IsSoFar-fault f rows i row values kind so_far below at is =
    so_far
    ∙ ap (prefixed values) (next_row f rows i row below at ∙ ap (λ r. step row r (until f (drop (i + 1) rows))) is)
    ∙ ap (λ values. record { values = values; stop = At row kind }) (append-nil values)

pub IsSoFar-end : {X : Type 0} (f : ℕ → Result X FaultKind) (rows : List ℕ) (i : ℕ) (values : List X) → IsSoFar f rows i values → length rows ≤ i → until f rows ≡ record { values = values; stop = Never }
IsSoFar-end f rows i values so_far end =
    so_far ∙ ap (λ left. prefixed values (until f left)) (drop_of_length-le rows end) ∙ ap (λ values. record { values = values; stop = Never }) (append-nil values)
