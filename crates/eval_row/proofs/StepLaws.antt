-- Steps along lists of expressions, and what the parts of an expression make of it.
use Rattle.std.proofs.Common.{◌≡◌, List, [], ◌∷◌, ◌++◌, Ok, Err, Result, refl, sym, ap, append_assoc}
use Rattle.sub_types.specs.declared.fault.FaultKind.{FaultKind}
use Rattle.sub_types.specs.declared.value.Value.{Value}
use Rattle.plan_denote.specs.Computed.{Computed, ◌>>=◌, collect}
use Rattle.eval_values.specs.Gives.{Gives}
use Rattle.eval_values.specs.declared.error.EvalError.{EvalError}
use Rattle.eval_values.specs.declared.error.EvalError.TheVariants as errors
use Rattle.eval_row.specs.Lists.{Picks}

-- with these values in front
abbrev pub prefixed : List Value → Result (List Value) FaultKind → Result (List Value) FaultKind
prefixed front (Ok rest) = Ok (front ++ rest)
prefixed front (Err kind) = Err kind

-- one more value
pub prefixed-more : (front : List Value) (value : Value) (rest : List Computed) → prefixed front (collect (Ok value ∷ rest)) ≡ prefixed (front ++ value ∷ []) (collect rest)
prefixed-more front value rest = by (collect rest)
  where
    by : (found : Result (List Value) FaultKind) → prefixed front (found >>= (λ xs. Ok (value ∷ xs))) ≡ prefixed (front ++ value ∷ []) found
    by (Ok xs) = ap (λ all. Ok all) (sym (append_assoc front (value ∷ []) xs))
    by (Err kind) = refl

-- what stops a pick is what the whole gives
pub picks_fault : (error : EvalError) (other expected : Computed) → Picks (Err error) other expected → Gives (Err error) expected
picks_fault (errors.Fault kind) other expected picks = picks
picks_fault errors.NoMemory other expected picks = tt
