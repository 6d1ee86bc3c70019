-- What a result that may find no memory has to do with what an expression is worth.
use Rattle.std.specs.Prelude.{◌≡◌, Result, Ok, Err}
use Rattle.sub_types.specs.declared.value.Value.{Value}
use Rattle.eval_values.specs.declared.error.EvalError.{EvalError}
use Rattle.eval_values.specs.declared.error.EvalError.TheVariants as errors
use Rattle.plan_denote.specs.Computed.{Computed}

-- the value or the fault is that of the expression, unless no memory was found
abbrev pub Gives : Result Value EvalError → Computed → Type 0
Gives (Ok value) computed = computed ≡ Ok value
Gives (Err (errors.Fault kind)) computed = computed ≡ Err kind
Gives (Err errors.NoMemory) computed = Unit {0}
