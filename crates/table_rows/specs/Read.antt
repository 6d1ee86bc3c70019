-- The rows of a table as they are read: each is tested by the plan's types.
use Rattle.std.specs.Prelude.{ℕ, List, [], ◌∷◌, length, map, Bool, true, false, Option, Some, None, Result, Ok, Err, nat_lt, if◌then◌else◌}
use Rattle.std.specs.Option.{option_or}
use Rattle.sub_types.specs.declared.fault.Fault.{Fault}
use Rattle.sub_types.specs.declared.fault.FaultKind.{FaultKind}
use Rattle.sub_types.specs.declared.fault.FaultKind.TheVariants.{NullInRequired, TextTooLong}
use Rattle.sub_types.specs.declared.kind.Kind.{Kind}
use Rattle.sub_types.specs.declared.kind.Ty.{Ty}
use Rattle.sub_types.specs.declared.value.Value.{Value}
use Rattle.sub_types.specs.declared.value.Value.TheVariants as values
use Rattle.sub_types.specs.Value.{MAX_TEXT}

-- the kinds of types, whether or not nulls may stand there
abbrev pub kinds_of : List Ty → List Kind
kinds_of types = map (λ ty. ty.kind) types

-- not null
abbrev pub is_there : Value → Bool
is_there values.Null = false
is_there _ = true

-- a null where none may stand
abbrev pub null_fault : Ty → Value → Option FaultKind
null_fault ty values.Null = if ty.nullable then None else Some NullInRequired
null_fault ty _ = None

-- more bytes than a text or binary value may have
abbrev pub is_long : Option (List ℕ) → Bool
is_long (Some bytes) = nat_lt MAX_TEXT (length bytes)
is_long None = false

-- a text or binary that is too long
abbrev pub length_fault : Value → Option FaultKind
length_fault (values.Bytes bytes) = if is_long (Some bytes) then Some TextTooLong else None
length_fault _ = None

-- what is wrong with a value in a column of a type
abbrev pub value_fault : Ty → Value → Option FaultKind
value_fault ty value = option_or (null_fault ty value) (length_fault value)

-- what is wrong with a row: its first fault, column by column
abbrev pub row_fault : List Ty → List Value → Option FaultKind
row_fault (ty ∷ types) (value ∷ row) = option_or (value_fault ty value) (row_fault types row)
row_fault _ _ = None

-- a row alone, or what is wrong with it, at the relation of a number
abbrev pub read_as : ℕ → List Value → Option FaultKind → Result (List (List Value)) Fault
read_as relation row None = Ok (row ∷ [])
read_as relation row (Some kind) = Err (record { relation = relation; kind = kind })

abbrev pub read_row : ℕ → List Ty → List Value → Result (List (List Value)) Fault
read_row relation types row = read_as relation row (row_fault types row)
