-- Reads (Substrait `ReadRel`): the rows of tables, or of expressions, each of them tested by the read's types.
use Rattle.std.specs.Prelude.{ℕ, List, [], ◌∷◌, length, Option, Some, None, Result, Ok, Err, nat_lt, if◌then◌else◌}
use Rattle.std.specs.Option.{option_or}
use Rattle.sub_types.specs.declared.fault.FaultKind.{FaultKind}
use Rattle.sub_types.specs.declared.fault.FaultKind.TheVariants.{NullInRequired, TextTooLong}
use Rattle.sub_types.specs.declared.kind.Ty.{Ty}
use Rattle.sub_types.specs.declared.value.Value.{Value}
use Rattle.sub_types.specs.declared.value.Value.TheVariants as values
use Rattle.sub_types.specs.Value.{MAX_TEXT}
use Rattle.sub_types.specs.Stream.{Stream, rows_alone}
use Rattle.plan_denote.specs.Rows.{Row, Formula, ◌>>=◌, values_at, is_true, only_if, each_row}
use Rattle.plan_denote.specs.Project.{columns_at}

-- a null where none may stand
abbrev pub null_fault : Ty → Value → Option FaultKind
null_fault ty values.Null = if ty.nullable then None else Some NullInRequired
null_fault ty _ = None

-- a text or binary that is too long
abbrev pub length_fault : Value → Option FaultKind
length_fault (values.Bytes bytes) = if nat_lt MAX_TEXT (length bytes) then Some TextTooLong else None
length_fault _ = None

-- what is wrong with a value in a column of a type
abbrev pub value_fault : Ty → Value → Option FaultKind
value_fault ty value = option_or (null_fault ty value) (length_fault value)

-- what is wrong with a row: its first fault, column by column
abbrev pub row_fault : List Ty → Row → Option FaultKind
row_fault (ty ∷ types) (value ∷ row) = option_or (value_fault ty value) (row_fault types row)
row_fault _ _ = None

-- the fault, or else what comes without one
abbrev pub fault_or : {A : Type 0} → Option FaultKind → Result A FaultKind → Result A FaultKind
fault_or None given = given
fault_or (Some kind) given = Err kind

-- a row is tested, then filtered, and then the columns of the mask are taken
abbrev pub read_row : List Ty → Formula → List ℕ → Row → Result (List Row) FaultKind
read_row types filter mask row = fault_or (row_fault types row) (do
  test ← filter row
  Ok (only_if (is_true test) (columns_at mask row)))

-- rows of a table, or of expressions, as they are read
unfoldable pub read_rows : ℕ → List Ty → Formula → List ℕ → Stream Row → Stream Row
read_rows number types filter mask = each_row number (read_row types filter mask)

-- the rows that are written as expressions over no columns
unfoldable pub virtual_rows : ℕ → List (List Formula) → Stream Row
virtual_rows number rows = each_row number (λ exprs. values_at exprs [] >>= (λ row. Ok (row ∷ []))) (rows_alone rows)
