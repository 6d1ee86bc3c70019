-- What an expression is worth at a row: a value, or a fault.
use Rattle.std.specs.Prelude.{List, Bool, true, false, Result, Ok, if◌then◌else◌}
use Rattle.std.specs.List.{list_any}
use Rattle.sub_types.specs.declared.fault.FaultKind.{FaultKind}
use Rattle.sub_types.specs.declared.value.Value.{Value}
use Rattle.sub_types.specs.declared.value.Value.TheVariants as values
pub use Rattle.sub_types.specs.ResultSteps.{◌>>=◌, collect}

-- a row has one value for each column
abbrev pub Row : Type 0
Row = List Value

abbrev pub Computed : Type 0
Computed = Result Value FaultKind

abbrev pub truth : Bool → Computed
truth test = Ok (values.Bool test)

abbrev pub null : Computed
null = Ok values.Null

abbrev pub is_null : Value → Bool
is_null values.Null = true
is_null _ = false

abbrev pub is_true : Value → Bool
is_true (values.Bool test) = test
is_true _ = false

-- null where a value is null, and else this
abbrev pub unless_null : List Value → Computed → Computed
unless_null row computed = if list_any is_null row then null else computed
