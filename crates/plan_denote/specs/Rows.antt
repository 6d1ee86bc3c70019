-- Rows in order, and what a relation gives for each.
use Rattle.std.specs.Prelude.{ℕ, List, [], ◌∷◌, Bool, true, false, Option, Some, None, Result, Ok, Err, map, if◌then◌else◌}
use Rattle.sub_types.specs.declared.fault.Fault.{Fault}
use Rattle.sub_types.specs.declared.fault.FaultKind.{FaultKind}
use Rattle.sub_types.specs.Stream.{Stream, ended, each}
pub use Rattle.plan_denote.specs.Computed.{Row, Computed, ◌>>=◌, collect, truth, is_true}

-- what an expression is worth at each row
abbrev pub Formula : Type 0
Formula = Row → Computed

-- what a condition is worth; a condition that is absent is true
abbrev pub condition_of : Option Formula → Formula
condition_of None row = truth true
condition_of (Some condition) row = condition row

-- the values of expressions at a row from left to right, or the first fault
abbrev pub values_at : List Formula → Row → Result Row FaultKind
values_at exprs row = collect (map (λ expr. expr row) exprs)

-- a list of this alone where a test holds, and else an empty list
abbrev pub only_if : {A : Type 0} → Bool → A → List A
only_if test x = if test then x ∷ [] else []

abbrev pub is_empty : {A : Type 0} → List A → Bool
is_empty [] = true
is_empty _ = false

-- a fault of the relation of this number
abbrev pub fault_at : ℕ → FaultKind → Fault
fault_at number kind = record { relation = number; kind = kind }

abbrev pub at_relation : {A : Type 0} → ℕ → Result A FaultKind → Result A Fault
at_relation number (Ok x) = Ok x
at_relation number (Err kind) = Err (fault_at number kind)

-- each row gives some rows or a fault of the relation of this number: the rows before the first fault with that fault, or all of
-- them with the input's end
abbrev pub each_row : {A B : Type 0} → ℕ → (A → Result (List B) FaultKind) → Stream A → Stream B
each_row number given = each (λ row. at_relation number (given row))

-- a fault leaves no rows and that fault
abbrev pub unless_fault : {A : Type 0} → Option Fault → Stream A → Stream A
unless_fault None s = s
unless_fault (Some fault) s = ended (Some fault)

-- no rows and the fault where the rows end in one, and else what all of them give together
abbrev pub from_all : {A B : Type 0} → (List A → Stream B) → Stream A → Stream B
from_all given s = unless_fault s.end (given s.rows)
