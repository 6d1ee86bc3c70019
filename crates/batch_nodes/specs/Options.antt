-- A value and its options, and a value among literals.
use Rattle.std.specs.Prelude.{ℕ, suc, List, [], ◌∷◌, Bool, true, false, not, ◌&&◌, ◌||◌, Option, Some, None, Result, Ok, if◌then◌else◌}
use Rattle.std.specs.Ordering.{is_eq}
use Rattle.sub_types.specs.declared.fault.FaultKind.{FaultKind}
use Rattle.sub_types.specs.declared.value.Value.{Value}
use Rattle.sub_types.specs.declared.value.Value.TheVariants as values
use Rattle.plan_denote.specs.Computed.{Computed, ◌>>=◌, is_null}
use Rattle.plan_denote.specs.Order.{value_cmp, is_same}
use Rattle.plan_denote.specs.Logic.{is_truth, three_valued}
use Rattle.batch_nodes.specs.Narrowed.{folded, narrowed, IsStep}

-- whether two values are equal, null where one is null
abbrev pub equality : Value → Value → Value
equality a b = if is_null a || is_null b then values.Null else values.Bool (is_eq (value_cmp a b))

-- a value, and whether it is one of the options so far
abbrev pub Sought : Type 0
Sought = Value × Value

abbrev pub is_found : Sought → Option Sought
is_found sought = if is_truth true sought.1 then Some sought else None

abbrev pub looked : Sought → Value → Result Sought FaultKind
looked sought option = Ok (sought.0, three_valued true sought.1 (equality sought.0 option))

abbrev pub sought : Computed → Result Sought FaultKind
sought value = value >>= (λ one. Ok (one, values.Bool false))

abbrev pub looked_up : Computed → List Computed → Result Sought FaultKind
looked_up value options = folded (narrowed is_found looked) (sought value) options

-- the place of the first literal that equals the value, and else how many there are
abbrev pub place_of : Value → List Value → ℕ
place_of value [] = 0
place_of value (literal ∷ literals) = if not (is_null value) && is_same value literal then 0 else suc (place_of value literals)

-- values with their answers, as far as there are both
abbrev pub paired : List Value → List Value → List Sought
paired (value ∷ values) (answer ∷ answers) = (value, answer) ∷ paired values answers
paired _ _ = []

-- the answer of one row, and how many options' values are used then
abbrev pub with_value : Value → Option (Value × ℕ) → Option (Sought × ℕ)
with_value value (Some next) = Some ((value, next.0), next.1)
with_value value None = None

abbrev pub IsAnswer : Value → Value → List Value → ℕ → Option (Value × ℕ) → Type 0
IsAnswer value answer options used next = IsStep is_found looked values.Null (value, answer) options used (with_value value next)
