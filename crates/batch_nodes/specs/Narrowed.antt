-- A second operand, which is evaluated only on the rows that the first one leaves open.
use Rattle.std.specs.Prelude.{◌≡◌, ◌⊎◌, ℕ, ◌+◌, ◌<◌, ◌≤◌, length, slice_index_or, List, [], ◌∷◌, ◌++◌, Option, Some, None, Result, Ok, Err}
use Rattle.sub_types.specs.declared.fault.FaultKind.{FaultKind}
use Rattle.kernels.specs.declared.selection.Stop.{Stop}
use Rattle.kernels.specs.declared.selection.Stop.TheVariants.{Never, At}
use Rattle.kernels.specs.Until.{Until, step}

-- the values of some rows, and then those of the rows that follow, unless there was a stop
abbrev pub followed : {X : Type 0} → List X → Stop → Until X → Until X
followed values Never rest = record { values = values ++ rest.values; stop = rest.stop }
followed values (At row kind) rest = record { values = values; stop = At row kind }

-- what the first operand's value settles, or what it makes of the second operand
abbrev pub opened : {X Y Z : Type 0} → (X → Z → Result Y FaultKind) → X → Option Y → Result Z FaultKind → Result Y FaultKind
opened merge x (Some y) second = Ok y
opened merge x None (Ok z) = merge x z
opened merge x None (Err kind) = Err kind

-- no value settles anything
abbrev pub strict : {X Y : Type 0} → X → Option Y
strict x = None

-- one row: the first operand's fault, or its value with the second operand
abbrev pub narrowed : {X Y Z : Type 0} → (X → Option Y) → (X → Z → Result Y FaultKind) → Result X FaultKind → Result Z FaultKind → Result Y FaultKind
narrowed settle merge (Ok x) second = opened merge x (settle x) second
narrowed settle merge (Err kind) second = Err kind

-- a row that is left open stands before the others
abbrev pub left_open : {Y : Type 0} → ℕ → Option Y → List ℕ → List ℕ
left_open row (Some y) rows = rows
left_open row None rows = row ∷ rows

-- the rows that the first operand's values leave open: none from its stop on
abbrev pub open_rows : {X Y : Type 0} → (X → Option Y) → List ℕ → List X → List ℕ
open_rows settle (row ∷ rows) (x ∷ values) = left_open row (settle x) (open_rows settle rows values)
open_rows settle _ _ = []

-- one row's value, and then the rest, to which the other operand's values that are left go
abbrev pub put : {X Y Z : Type 0} → (X → Z → Result Y FaultKind) → ℕ → X → Option Y → List Z → Stop → (List Z → Until Y) → Until Y
put merge row x (Some y) others other_stop rest = step row (Ok y) (rest others)
put merge row x None [] other_stop rest = record { values = []; stop = other_stop }
put merge row x None (z ∷ others) other_stop rest = step row (merge x z) (rest others)

-- both operands' values put together, up to the first row at which one is missing: there its stop is the stop
abbrev pub joined : {X Y Z : Type 0} → (X → Option Y) → (X → Z → Result Y FaultKind) → List ℕ → List X → Stop → List Z → Stop → Until Y
joined settle merge (row ∷ rows) (x ∷ values) stop others other_stop = put merge row x (settle x) others other_stop (λ left. joined settle merge rows values stop left other_stop)
joined settle merge _ _ stop others other_stop = record { values = []; stop = stop }

-- a function of one value, at each row that has one
abbrev pub applied : {X Y : Type 0} → (X → Result Y FaultKind) → List ℕ → List X → Stop → Until Y
applied k (row ∷ rows) (x ∷ values) stop = step row (k x) (applied k rows values stop)
applied k _ _ stop = record { values = []; stop = stop }

-- operands one after the other, from this on
abbrev pub folded : {S X : Type 0} → (S → X → S) → S → List X → S
folded f so_far [] = so_far
folded f so_far (x ∷ xs) = folded f (f so_far x) xs

-- one row of what is put together, and how many values of the other operand are used then: none where one is wanted that isn't there
abbrev pub IsStep : {X Y Z : Type 0} → (X → Option Y) → (X → Z → Result Y FaultKind) → Z → X → List Z → ℕ → Option (Y × ℕ) → Type 0
IsStep settle merge filler x others used (Some next) =
    ((settle x ≡ Some next.0) × (next.1 ≡ used))
    ⊎ ((settle x ≡ None) × (used < length others) × (merge x (slice_index_or others used filler) ≡ Ok next.0) × (next.1 ≡ used + 1))
IsStep settle merge filler x others used None = (settle x ≡ None) × (length others ≤ used)
