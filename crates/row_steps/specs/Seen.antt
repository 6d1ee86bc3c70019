-- What contracts see of streams in memory, and what a step that may find no memory has to do with its definition.
use Rattle.std.specs.Borrow.{Bor}
use Rattle.std.specs.Prelude.{◌≡◌, List, [], ◌∷◌, Option, Some, None, Result, Ok, Err}
use Rattle.sub_types.specs.declared.fault.FaultKind.{FaultKind}
use Rattle.sub_types.specs.declared.value.Value.{Value}
use Rattle.sub_types.specs.declared.value.Value.TheVariants as values
use Rattle.sub_types.specs.Stream as spec
use Rattle.eval_values.specs.declared.error.EvalError.{EvalError}
use Rattle.eval_values.specs.declared.error.EvalError.TheVariants as errors
use Rattle.row_steps.specs.declared.stream.Stream.{Stream}

abbrev pub seen : {R : Type 0} → Stream R → spec.Stream R
seen s = record { rows = s.rows; end = s.end }

-- a value that may be missing, null where it is
abbrev pub or_null : Option (Bor Value) → Value
or_null None = values.Null
or_null (Some value) = value.now

-- the value or the fault is the defined one, unless no memory was found
abbrev pub Comes : {A : Type 0} → Result A EvalError → Result A FaultKind → Type 0
Comes (Ok x) expected = expected ≡ Ok x
Comes (Err (errors.Fault kind)) expected = expected ≡ Err kind
Comes (Err errors.NoMemory) expected = Unit {0}

-- the same of what is none or one
abbrev pub ComesAtMost : {A : Type 0} → Result (Option A) EvalError → Result (List A) FaultKind → Type 0
ComesAtMost (Ok (Some x)) expected = expected ≡ Ok (x ∷ [])
ComesAtMost (Ok None) expected = expected ≡ Ok []
ComesAtMost (Err (errors.Fault kind)) expected = expected ≡ Err kind
ComesAtMost (Err errors.NoMemory) expected = Unit {0}
